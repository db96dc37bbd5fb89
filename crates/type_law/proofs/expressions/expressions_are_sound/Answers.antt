use Rattle.type_law.proofs.DeclarationsSpecifierLemmas.{specifiers_are_sound}
use Rattle.type_law.proofs.ExpressionsJudgments.{expressions_by}
use Rattle.type_law.proofs.expressions.expressions_are_sound.Goals as goal

pub returns : goal.returns
returns c = expressions_by specifiers_are_sound
