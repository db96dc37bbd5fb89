use Rattle.type_law.proofs.ExpressionsSilence.{bad_operands_are_silent}
use Rattle.type_law.proofs.expressions.bad_operands_are_silent.Goals as goal

pub returns : goal.returns
returns c = bad_operands_are_silent
