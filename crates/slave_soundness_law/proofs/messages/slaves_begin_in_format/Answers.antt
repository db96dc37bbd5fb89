use Rattle.slave_soundness_law.proofs.MessagesBeginning.{slaves_begin_in_format}
use Rattle.slave_soundness_law.proofs.messages.slaves_begin_in_format.Goals as goal

pub returns : goal.returns
returns c = slaves_begin_in_format
