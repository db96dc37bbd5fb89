use Rattle.part_views_law.proofs.StepsAdded.{pointers_are_plain}
use Rattle.part_views_law.proofs.steps.pointers_are_plain.Goals as goal

pub returns : goal.returns
returns c = pointers_are_plain
