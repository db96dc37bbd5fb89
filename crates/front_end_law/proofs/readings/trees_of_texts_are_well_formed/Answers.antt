use Rattle.front_end_law.proofs.ReadingsTextTrees.{trees_are_sound}
use Rattle.front_end_law.proofs.readings.trees_of_texts_are_well_formed.Goals as goal

pub returns : goal.returns
returns c = trees_are_sound
