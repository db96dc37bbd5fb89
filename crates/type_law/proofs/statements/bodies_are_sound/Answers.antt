use Rattle.type_law.proofs.DeclarationsSpecifierLemmas.{specifiers_are_sound}
use Rattle.type_law.proofs.DeclarationsObjectLemmas.{objects_are_sound}
use Rattle.type_law.proofs.DeclarationsSizeLemmas.{sizes_are_sound}
use Rattle.type_law.proofs.DeclarationsLeavesLemmas.{leaves_are_sound}
use Rattle.type_law.proofs.ExpressionsFits.{values_fit}
use Rattle.type_law.proofs.ExpressionsJudgments.{expressions_by}
use Rattle.type_law.proofs.StatementsBodies.{bodies_sound}
use Rattle.type_law.proofs.statements.bodies_are_sound.Goals as goal

pub returns : goal.returns
returns c = bodies_sound (record {
  expressions = expressions_by specifiers_are_sound;
  values = values_fit;
  specifiers = specifiers_are_sound;
  objects = objects_are_sound;
  sizes = sizes_are_sound;
  leaves = leaves_are_sound;
})
