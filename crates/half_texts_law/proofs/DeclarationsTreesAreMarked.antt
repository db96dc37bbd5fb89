-- The law of trees, by the laws of their parts.
use Rattle.type_law.proofs.ProgramsAreWellFormed.{laws}
use Rattle.half_texts_law.specs.DeclarationsLaws.{TreesAreMarked}
use Rattle.half_texts_law.proofs.DeclarationsPrograms.{trees_marked}

pub marked_trees : TreesAreMarked
marked_trees = trees_marked laws
