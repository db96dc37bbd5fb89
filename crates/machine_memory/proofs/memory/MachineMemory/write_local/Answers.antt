use Rattle.std.proofs.Common.{◌∙◌, ap}
use Rattle.pt_base.proofs.Results.{on_err_of}
use Rattle.block_memory.specs.declared.cell.BlockName.TheVariants.{Local}
use Rattle.block_memory.specs.Block.{with_cell}
use Rattle.block_memory.specs.Blocks.{Blocks, put}
use Rattle.machine_memory.proofs.memory.MachineMemory.write_local.Goals as goal

pub returns-in_err-open-clause-err : goal.returns-in_err-open-clause-err
returns-in_err-open-clause-err c = on_err_of _ (c.open.ensures.blocks ∙ c.if-write_closed.ensures.written)

pub returns-clause-ok : goal.returns-clause-ok
returns-clause-ok c =
    c.write_opened.ensures.written
    ∙ ap (λ (bs : Blocks). put bs (Local c.args.depth c.args.var) (with_cell (bs (Local c.args.depth c.args.var)) c.args.cell c.args.c)) (c.open.ensures.blocks ∙ c.if-write_closed.ensures.written)
