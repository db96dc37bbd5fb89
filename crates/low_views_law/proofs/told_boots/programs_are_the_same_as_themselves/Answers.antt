use Rattle.low_views_law.proofs.ToldBootsSelves.{programs_selves}
use Rattle.low_views_law.proofs.told_boots.programs_are_the_same_as_themselves.Goals as goal

pub returns : goal.returns
returns c = programs_selves
