use Rattle.machine_memory.proofs.MemoryLemmas.{frame_sized}
use Rattle.machine_memory.proofs.laws.frames_fit.Goals as goal

pub returns : goal.returns
returns c = λ m depth layout st. let sized = frame_sized m depth layout st in (sized.words, sized.entries)
