use Rattle.flow_picture.proofs.ShownLemmas.{objects_shown}
use Rattle.flow_picture.proofs.laws.objects_are_shown.Goals as goal

pub returns : goal.returns
returns c = objects_shown
