use Rattle.type_law.proofs.SizesProgram.{typed_trees_are_small}
use Rattle.type_law.proofs.sizes.typed_trees_are_small.Goals as goal

pub returns : goal.returns
returns c = typed_trees_are_small
