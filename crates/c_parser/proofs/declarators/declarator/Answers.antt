use Rattle.std.proofs.Common.{◌≡◌, Err, rules}
use Rattle.c_parser.proofs.Steps.{built}
use Rattle.c_parser.proofs.declarators.declarator.Goals as goal

pub returns-in_err-star-clause-parses : goal.returns-in_err-star-clause-parses
returns-in_err-star-clause-parses c = λ depth. let is : c.from_residual-in_err-star.result ≡ Err c.in_err-star.field-0.0 = search rules in rw is (record { from = λ o e rest parts. c.in_ok-begin.ensures.from _ _ _ _ ((c.in_err-star.ensures.parses depth).from o e _ _) })

pub returns-in_err-name-clause-parses : goal.returns-in_err-name-clause-parses
returns-in_err-name-clause-parses c = λ depth. let is : c.from_residual-in_err-name.result ≡ Err c.in_err-name.field-0.0 = search rules in rw is (record { from = λ o e rest parts. c.in_ok-begin.ensures.from _ _ _ _ ((c.in_ok-star.ensures.parses depth).from _ _ _ ((c.in_err-name.ensures.word depth).from o e _ _)) })

pub returns-in_err-suffix-clause-parses : goal.returns-in_err-suffix-clause-parses
returns-in_err-suffix-clause-parses c = λ depth. let is : c.from_residual-in_err-suffix.result ≡ Err c.in_err-suffix.field-0.0 = search rules in rw is (record { from = λ o e rest parts. c.in_ok-begin.ensures.from _ _ _ _ ((c.in_ok-star.ensures.parses depth).from _ _ _ ((c.in_ok-name.ensures.word depth).from _ _ _ ((c.in_err-suffix.ensures.parses depth).from o e _ _))) })

pub returns-clause-parses : goal.returns-clause-parses
returns-clause-parses c = λ depth. record { from = λ rest parts o k. c.in_ok-begin.ensures.from _ _ _ _ ((c.in_ok-star.ensures.parses depth).from _ _ _ ((c.in_ok-name.ensures.word depth).from _ _ _ ((c.in_ok-suffix.ensures.parses depth).from _ _ _ (built _ _ _ _ _ _ _ _ _ (search rules) (k))))) }
