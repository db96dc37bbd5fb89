use Rattle.slave_soundness_law.proofs.MessagesSaying.{reached_slaves_are_in_format}
use Rattle.slave_soundness_law.proofs.messages.reached_slaves_are_in_format.Goals as goal

pub returns : goal.returns
returns c = reached_slaves_are_in_format
