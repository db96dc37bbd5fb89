use Rattle.std.proofs.Common.{◌∙◌, ap, length, List, subst, sym}
use Rattle.pt_base.specs.declared.int_type.IntType.{IntType}
use Rattle.block_memory.specs.declared.cell.BlockName.{BlockName}
use Rattle.block_memory.specs.declared.cell.BlockName.TheVariants.{Local}
use Rattle.block_memory.specs.Blocks.{HasRoom, put}
use Rattle.machine_memory.specs.Memory.{blocks_of}
use Rattle.machine_memory.proofs.LocalsLemmas.{on_ok-then}
use Rattle.machine_memory.proofs.memory.MachineMemory.put_block.Goals as goal

pub returns-in-Local-clause-ok : goal.returns-in-Local-clause-ok
returns-in-Local-clause-ok c =
    let blocks = blocks_of c.args.self.now in
    let own = Local c.in-Local.depth c.in-Local.var in
    let room = subst (λ (n : BlockName). HasRoom (blocks_of c.args.self.now) n c.args.types.now (length c.args.cells.now)) c.in-Local.is c.requires.room in
    on_ok-then c.put_local.result c.put_local.ensures.ok (λ e.
    e
    ∙ ap (λ (n : BlockName). put blocks n (record { types = (blocks own).types; cells = c.args.cells.now })) (sym c.in-Local.is)
    ∙ ap (λ (ts : List IntType). put blocks c.args.name (record { types = ts; cells = c.args.cells.now })) room.0)
