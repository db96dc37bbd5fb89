use Rattle.low_views_law.proofs.Pairs.{pairs_see_alike}
use Rattle.low_views_law.proofs.pairs_see_alike.Goals as goal

pub returns : goal.returns
returns c = pairs_see_alike
