use Rattle.pair_running.proofs.MemoryTalksTalks.{talks_are_whole}
use Rattle.pair_running.proofs.memory_talks.talks_are_whole.Goals as goal

pub returns : goal.returns
returns c = talks_are_whole
