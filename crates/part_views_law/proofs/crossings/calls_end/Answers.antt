use Rattle.part_views_law.proofs.CrossingsEnding.{calls_end}
use Rattle.part_views_law.proofs.crossings.calls_end.Goals as goal

pub returns : goal.returns
returns c = calls_end
