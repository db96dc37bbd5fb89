use Rattle.pair_runner.proofs.Messages.{frames_are_messages}
use Rattle.pair_runner.proofs.laws.frames_are_messages.Goals as goal

pub returns : goal.returns
returns c = frames_are_messages
