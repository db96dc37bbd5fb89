use Rattle.std.proofs.Common.{◌∙◌, ap, sym}
use Rattle.block_memory.specs.declared.cell.BlockName.{BlockName}
use Rattle.block_memory.specs.Block.{with_cell}
use Rattle.block_memory.specs.Blocks.{put}
use Rattle.machine_memory.specs.Memory.{blocks_of}
use Rattle.machine_memory.proofs.LocalsLemmas.{on_ok-then}
use Rattle.machine_memory.proofs.memory.MachineMemory.write.Goals as goal

pub returns-in-Local-clause-ok : goal.returns-in-Local-clause-ok
returns-in-Local-clause-ok c =
    on_ok-then c.write_local.result c.write_local.ensures.ok (λ e.
    e ∙ ap (λ (b : BlockName). put (blocks_of c.args.self.now) b (with_cell (blocks_of c.args.self.now b) c.args.at.cell c.args.c)) (sym c.in-Local.is))
