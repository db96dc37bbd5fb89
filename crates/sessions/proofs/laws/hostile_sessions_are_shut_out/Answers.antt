use Rattle.sessions.proofs.Apart.{hostile_sessions_are_shut_out}
use Rattle.sessions.proofs.laws.hostile_sessions_are_shut_out.Goals as goal

pub returns : goal.returns
returns c = hostile_sessions_are_shut_out
