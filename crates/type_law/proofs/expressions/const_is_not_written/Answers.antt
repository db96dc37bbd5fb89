use Rattle.type_law.proofs.ExpressionsConsts.{const_is_not_written}
use Rattle.type_law.proofs.expressions.const_is_not_written.Goals as goal

pub returns : goal.returns
returns c = const_is_not_written
