use Rattle.machine_memory.proofs.MemoryLemmas.{word_is_cell}
use Rattle.machine_memory.proofs.laws.words_stand_for_cells.Goals as goal

pub returns : goal.returns
returns c = word_is_cell
