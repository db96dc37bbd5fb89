use Rattle.std.proofs.Common.{◌≡◌, Err, rules}
use Rattle.c_parser.proofs.Steps.{built}
use Rattle.c_parser.proofs.declarations.parameter.Goals as goal

pub returns-in_err-specs-clause-parses : goal.returns-in_err-specs-clause-parses
returns-in_err-specs-clause-parses c = let is : c.from_residual-in_err-specs.result ≡ Err c.in_err-specs.field-0.0 = search rules in rw is (record { from = λ o e rest parts. c.in_ok-begin.ensures.from _ _ _ _ (c.in_err-specs.ensures.parses.from o e _ _) })

pub returns-in_err-pointer-clause-parses : goal.returns-in_err-pointer-clause-parses
returns-in_err-pointer-clause-parses c = let is : c.from_residual-in_err-pointer.result ≡ Err c.in_err-pointer.field-0.0 = search rules in rw is (record { from = λ o e rest parts. c.in_ok-begin.ensures.from _ _ _ _ (c.in_ok-specs.ensures.parses.from _ _ _ ((c.in_err-pointer.ensures.parses c.args.depth).from o e _ _)) })

pub returns-in_err-name-clause-parses : goal.returns-in_err-name-clause-parses
returns-in_err-name-clause-parses c = let is : c.from_residual-in_err-name.result ≡ Err c.in_err-name.field-0.0 = search rules in rw is (record { from = λ o e rest parts. c.in_ok-begin.ensures.from _ _ _ _ (c.in_ok-specs.ensures.parses.from _ _ _ ((c.in_ok-pointer.ensures.parses c.args.depth).from _ _ _ ((c.in_err-name.ensures.parses c.args.depth).from o e _ _))) })

pub returns-in_err-suffix-clause-parses : goal.returns-in_err-suffix-clause-parses
returns-in_err-suffix-clause-parses c = let is : c.from_residual-in_err-suffix.result ≡ Err c.in_err-suffix.field-0.0 = search rules in rw is (record { from = λ o e rest parts. c.in_ok-begin.ensures.from _ _ _ _ (c.in_ok-specs.ensures.parses.from _ _ _ ((c.in_ok-pointer.ensures.parses c.args.depth).from _ _ _ ((c.in_ok-name.ensures.parses c.args.depth).from _ _ _ ((c.in_err-suffix.ensures.parses c.args.depth).from o e _ _)))) })

pub returns-clause-parses : goal.returns-clause-parses
returns-clause-parses c = record { from = λ rest parts o k. c.in_ok-begin.ensures.from _ _ _ _ (c.in_ok-specs.ensures.parses.from _ _ _ ((c.in_ok-pointer.ensures.parses c.args.depth).from _ _ _ ((c.in_ok-name.ensures.parses c.args.depth).from _ _ _ ((c.in_ok-suffix.ensures.parses c.args.depth).from _ _ _ (built _ _ _ _ _ _ _ _ _ (search rules) (k)))))) }
