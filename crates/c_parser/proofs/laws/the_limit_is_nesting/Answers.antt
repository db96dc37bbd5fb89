use Rattle.c_parser.proofs.Nesting.{limit_is_nesting}
use Rattle.c_parser.proofs.laws.the_limit_is_nesting.Goals as goal

pub returns : goal.returns
returns c = limit_is_nesting
