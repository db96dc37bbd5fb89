use Rattle.pair_running.proofs.MemoryTalksTalks.{talks_end}
use Rattle.pair_running.proofs.memory_talks.talks_end.Goals as goal

pub returns : goal.returns
returns c = talks_end
