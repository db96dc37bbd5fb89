use Rattle.half_meaning_law.proofs.ExpressionLaw.{expressions}
use Rattle.half_meaning_law.proofs.expressions_keep_their_meaning.Goals as goal

pub returns : goal.returns
returns c = expressions
