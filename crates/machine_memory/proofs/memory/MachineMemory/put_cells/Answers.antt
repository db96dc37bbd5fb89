use Rattle.std.proofs.Common.{◌∙◌, ap, sym}
use Rattle.block_memory.specs.declared.cell.BlockName.{BlockName}
use Rattle.block_memory.specs.Blocks.{put}
use Rattle.machine_memory.specs.Memory.{blocks_of}
use Rattle.machine_memory.proofs.LocalsLemmas.{on_ok-then}
use Rattle.machine_memory.proofs.memory.MachineMemory.put_cells.Goals as goal

pub returns-in-Local-clause-ok : goal.returns-in-Local-clause-ok
returns-in-Local-clause-ok c =
    let blocks = blocks_of c.args.self.now in
    on_ok-then c.put_local.result c.put_local.ensures.ok (λ e.
    e ∙ ap (λ (n : BlockName). put blocks n (record { types = (blocks n).types; cells = c.args.cells.now })) (sym c.in-Local.is))
