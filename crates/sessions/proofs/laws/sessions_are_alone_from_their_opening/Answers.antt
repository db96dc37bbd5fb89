use Rattle.sessions.proofs.Apart.{sessions_are_alone_from_their_opening}
use Rattle.sessions.proofs.laws.sessions_are_alone_from_their_opening.Goals as goal

pub returns : goal.returns
returns c = sessions_are_alone_from_their_opening
