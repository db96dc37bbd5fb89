use Rattle.flow_law.proofs.SlotsAllSides.{sides_exist}
use Rattle.flow_law.proofs.slots.there_are_sides.Goals as goal

pub returns : goal.returns
returns c = sides_exist
