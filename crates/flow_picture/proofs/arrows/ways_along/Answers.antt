use Rattle.flow_picture.proofs.SameLemmas.{same_after}
use Rattle.flow_picture.proofs.arrows.ways_along.Goals as goal

pub returns-clause-same : goal.returns-clause-same
returns-clause-same c = same_after _ _ _ c.arrange_arrows.ensures.same c.in_ok-ways.ensures
