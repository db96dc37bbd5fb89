use Rattle.std.proofs.Common.{◌≡◌, Err, rules}
use Rattle.c_parser.proofs.Steps.{built}
use Rattle.c_parser.proofs.program.function_end.Goals as goal

pub returns-in_err-ends-clause-parses : goal.returns-in_err-ends-clause-parses
returns-in_err-ends-clause-parses c = let is : c.from_residual.result ≡ Err c.in_err-ends.field-0.0 = search rules in rw is (record { from = λ o e rest parts. (c.in_err-ends.ensures.fails c.args.depth).from o e _ _ })

pub returns-in_err-next-clause-parses : goal.returns-in_err-next-clause-parses
returns-in_err-next-clause-parses c = let is : c.from_residual-in_err-next.result ≡ Err c.in_err-next.field-0.0 = search rules in rw is (record { from = λ o e rest parts. (c.in_ok-ends.ensures.goes.first c.if-ends.true).from _ _ _ _ ((c.in_err-next.ensures.expects c.args.depth).from o e _ _) })

pub returns-then-ends-clause-parses : goal.returns-then-ends-clause-parses
returns-then-ends-clause-parses c = record { from = λ rest parts o k. (c.in_ok-ends.ensures.goes.first c.if-ends.true).from _ _ _ _ ((c.in_ok-next.ensures.expects c.args.depth).from _ _ _ (built _ _ _ _ _ _ _ _ _ (search rules) (k))) }

pub returns-in_err-body-clause-parses : goal.returns-in_err-body-clause-parses
returns-in_err-body-clause-parses c = let is : c.from_residual-in_err-body.result ≡ Err c.in_err-body.field-0.0 = search rules in rw is (record { from = λ o e rest parts. (c.in_ok-ends.ensures.goes.second c.if-ends.false).from _ _ _ _ (c.in_err-body.ensures.parses.from o e _ _) })

pub returns-clause-parses : goal.returns-clause-parses
returns-clause-parses c = record { from = λ rest parts o k. (c.in_ok-ends.ensures.goes.second c.if-ends.false).from _ _ _ _ (c.in_ok-body.ensures.parses.from _ _ _ (built _ _ _ _ _ _ _ _ _ (search rules) (k))) }
