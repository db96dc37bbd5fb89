use Rattle.machine_memory.proofs.MemoryLemmas.{constant_word}
use Rattle.machine_memory.proofs.laws.constants_stand.Goals as goal

pub returns : goal.returns
returns c = constant_word
