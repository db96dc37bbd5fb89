use Rattle.half_texts_law.proofs.DeclarationsTreesAreMarked.{marked_trees}
use Rattle.half_texts_law.proofs.declarations.trees_are_marked.Goals as goal

pub returns : goal.returns
returns c = marked_trees
