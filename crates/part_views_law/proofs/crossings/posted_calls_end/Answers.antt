use Rattle.part_views_law.proofs.CrossingsEnding.{posted_calls_end}
use Rattle.part_views_law.proofs.crossings.posted_calls_end.Goals as goal

pub returns : goal.returns
returns c = posted_calls_end
