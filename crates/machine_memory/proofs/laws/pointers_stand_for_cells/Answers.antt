use Rattle.machine_memory.proofs.MemoryLemmas.{entry_is_cell}
use Rattle.machine_memory.proofs.laws.pointers_stand_for_cells.Goals as goal

pub returns : goal.returns
returns c = entry_is_cell
