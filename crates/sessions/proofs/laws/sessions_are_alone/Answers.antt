use Rattle.sessions.proofs.Apart.{sessions_are_alone}
use Rattle.sessions.proofs.laws.sessions_are_alone.Goals as goal

pub returns : goal.returns
returns c = sessions_are_alone
