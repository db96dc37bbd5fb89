use Rattle.flow_law.proofs.SlotsAllSides.{sides_few}
use Rattle.flow_law.proofs.slots.sides_are_of_few_slots.Goals as goal

pub returns : goal.returns
returns c = sides_few
