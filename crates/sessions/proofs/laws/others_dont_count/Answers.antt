use Rattle.sessions.proofs.Apart.{others_dont_count}
use Rattle.sessions.proofs.laws.others_dont_count.Goals as goal

pub returns : goal.returns
returns c = others_dont_count
