use Rattle.std.proofs.Common.{◌≡◌, Err, rules}
use Rattle.c_parser.proofs.Steps.{built}
use Rattle.c_parser.proofs.heads.for_declaration.Goals as goal

pub returns-in_err-declared-clause-parses : goal.returns-in_err-declared-clause-parses
returns-in_err-declared-clause-parses c = let is : c.from_residual.result ≡ Err c.in_err-declared.field-0.0 = search rules in rw is (record { from = λ o e rest parts. c.in_err-declared.ensures.parses.from o e _ _ })

pub returns-clause-parses : goal.returns-clause-parses
returns-clause-parses c = record { from = λ rest parts o k. c.in_ok-declared.ensures.parses.from _ _ _ (built _ _ _ _ _ _ _ _ _ (search rules) (k)) }
