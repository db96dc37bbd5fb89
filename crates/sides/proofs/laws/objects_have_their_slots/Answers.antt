use Rattle.sides.proofs.StandLemmas.{objects_stand}
use Rattle.sides.proofs.laws.objects_have_their_slots.Goals as goal

pub returns : goal.returns
returns c = objects_stand
