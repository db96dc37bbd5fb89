use Rattle.half_texts_law.proofs.DeclarationsAccepted.{halves_declarable}
use Rattle.half_texts_law.proofs.declarations.halves_are_declarable.Goals as goal

pub returns : goal.returns
returns c = halves_declarable c.trees_are_marked.ensures c.programs_are_well_formed.ensures
