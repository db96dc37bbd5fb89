use Rattle.c_parser.proofs.Outcomes.{one_outcome}
use Rattle.c_parser.proofs.laws.the_derivation_has_one_outcome.Goals as goal

pub returns : goal.returns
returns c = one_outcome
