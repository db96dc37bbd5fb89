use Rattle.std.proofs.Common.{◌≡◌, Err, rules}
use Rattle.c_parser.proofs.Steps.{built}
use Rattle.c_parser.proofs.heads.for_step.Goals as goal

pub returns-in_err-stands-clause-parses : goal.returns-in_err-stands-clause-parses
returns-in_err-stands-clause-parses c = let is : c.from_residual.result ≡ Err c.in_err-stands.field-0.0 = search rules in rw is (record { from = λ o e rest parts. (c.in_err-stands.ensures.fails c.args.depth).from o e _ _ })

pub returns-in_err-value-clause-parses : goal.returns-in_err-value-clause-parses
returns-in_err-value-clause-parses c = let is : c.from_residual-in_err-value.result ≡ Err c.in_err-value.field-0.0 = search rules in rw is (record { from = λ o e rest parts. (c.in_ok-stands.ensures.goes.first c.if-stands.true).from _ _ _ _ (c.in_err-value.ensures.parses.from o e _ _) })

pub returns-then-stands-clause-parses : goal.returns-then-stands-clause-parses
returns-then-stands-clause-parses c = record { from = λ rest parts o k. (c.in_ok-stands.ensures.goes.first c.if-stands.true).from _ _ _ _ (c.in_ok-value.ensures.parses.from _ _ _ (built _ _ _ _ _ _ _ _ _ (search rules) (k))) }

pub returns-clause-parses : goal.returns-clause-parses
returns-clause-parses c = record { from = λ rest parts o k. (c.in_ok-stands.ensures.goes.second c.if-stands.false).from _ _ _ _ (built _ _ _ _ _ _ _ _ _ (search rules) (k)) }
