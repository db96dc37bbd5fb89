use Rattle.pair_runner.proofs.Frames.{talks_are_frames}
use Rattle.pair_runner.proofs.laws.talks_are_frames.Goals as goal

pub returns : goal.returns
returns c = talks_are_frames
