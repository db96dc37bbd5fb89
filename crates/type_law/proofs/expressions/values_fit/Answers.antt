use Rattle.type_law.proofs.ExpressionsFits.{values_fit}
use Rattle.type_law.proofs.expressions.values_fit.Goals as goal

pub returns : goal.returns
returns c = values_fit
