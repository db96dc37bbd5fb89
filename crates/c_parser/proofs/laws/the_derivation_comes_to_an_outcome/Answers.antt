use Rattle.c_parser.proofs.Halting.{some_outcome}
use Rattle.c_parser.proofs.laws.the_derivation_comes_to_an_outcome.Goals as goal

pub returns : goal.returns
returns c = some_outcome
