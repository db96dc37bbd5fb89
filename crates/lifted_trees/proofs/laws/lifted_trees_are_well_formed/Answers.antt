use Rattle.lifted_trees.proofs.WellLemmas.{well_formed}
use Rattle.lifted_trees.proofs.laws.lifted_trees_are_well_formed.Goals as goal

pub returns : goal.returns
returns c = well_formed
