use Rattle.std.proofs.Common.{◌∙◌, ap, length, List, sym}
use Rattle.pt_base.proofs.Results.{on_err_of}
use Rattle.block_memory.specs.declared.cell.BlockName.TheVariants.{Local}
use Rattle.block_memory.specs.declared.cell.Cell.{Cell}
use Rattle.block_memory.specs.Blocks.{Blocks, put}
use Rattle.machine_memory.specs.Memory.{blocks_of}
use Rattle.machine_memory.proofs.memory.MachineMemory.put_local.Goals as goal

pub returns-in_err-open-clause-err : goal.returns-in_err-open-clause-err
returns-in_err-open-clause-err c = on_err_of _ c.open.ensures.blocks

pub put_opened-requires-clause-long : goal.put_opened-requires-clause-long
put_opened-requires-clause-long c =
    ap (λ (cs : List Cell). length cs) (c.new-own.ensures ∙ c.in_ok-from_slice.ensures.items)
    ∙ c.requires
    ∙ sym (ap (λ (bs : Blocks). length (bs (Local c.args.depth c.args.var)).cells) c.open.ensures.blocks)

pub returns-clause-ok : goal.returns-clause-ok
returns-clause-ok c =
    c.put_opened.ensures.written
    ∙ ap (λ (bs : Blocks). put bs (Local c.args.depth c.args.var) (record { types = (bs (Local c.args.depth c.args.var)).types; cells = c.new-own.result })) c.open.ensures.blocks
    ∙ ap (λ (cs : List Cell). put (blocks_of c.args.self.now) (Local c.args.depth c.args.var) (record { types = (blocks_of c.args.self.now (Local c.args.depth c.args.var)).types; cells = cs })) (c.new-own.ensures ∙ c.in_ok-from_slice.ensures.items)
