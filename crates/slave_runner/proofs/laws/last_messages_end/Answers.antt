use Rattle.slave_runner.proofs.EndLemmas.{last_messages_end}
use Rattle.slave_runner.proofs.laws.last_messages_end.Goals as goal

pub returns : goal.returns
returns c = last_messages_end
