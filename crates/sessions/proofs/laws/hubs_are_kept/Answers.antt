use Rattle.sessions.proofs.Apart.{hubs_are_kept}
use Rattle.sessions.proofs.laws.hubs_are_kept.Goals as goal

pub returns : goal.returns
returns c = hubs_are_kept
