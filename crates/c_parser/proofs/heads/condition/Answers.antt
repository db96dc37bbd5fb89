use Rattle.std.proofs.Common.{◌≡◌, Err, rules}
use Rattle.c_parser.proofs.heads.condition.Goals as goal

pub returns-in_err-after-clause-parses : goal.returns-in_err-after-clause-parses
returns-in_err-after-clause-parses c = let is : c.from_residual.result ≡ Err c.in_err-after.field-0.0 = search rules in rw is (record { from = λ o e rest parts. (c.in_err-after.ensures.expects c.args.depth).from o e _ _ })

pub returns-in_err-inside-clause-parses : goal.returns-in_err-inside-clause-parses
returns-in_err-inside-clause-parses c = let is : c.from_residual-in_err-inside.result ≡ Err c.in_err-inside.field-0.0 = search rules in rw is (record { from = λ o e rest parts. (c.in_ok-after.ensures.expects c.args.depth).from _ _ _ ((c.in_err-inside.ensures.expects c.args.depth).from o e _ _) })

pub returns-in_err-value-clause-parses : goal.returns-in_err-value-clause-parses
returns-in_err-value-clause-parses c = let is : c.from_residual-in_err-value.result ≡ Err c.in_err-value.field-0.0 = search rules in rw is (record { from = λ o e rest parts. (c.in_ok-after.ensures.expects c.args.depth).from _ _ _ ((c.in_ok-inside.ensures.expects c.args.depth).from _ _ _ (c.in_err-value.ensures.parses.from o e _ _)) })

pub returns-in_err-next-clause-parses : goal.returns-in_err-next-clause-parses
returns-in_err-next-clause-parses c = let is : c.from_residual-in_err-next.result ≡ Err c.in_err-next.field-0.0 = search rules in rw is (record { from = λ o e rest parts. (c.in_ok-after.ensures.expects c.args.depth).from _ _ _ ((c.in_ok-inside.ensures.expects c.args.depth).from _ _ _ (c.in_ok-value.ensures.parses.from _ _ _ ((c.in_err-next.ensures.expects c.args.depth).from o e _ _))) })

pub returns-clause-parses : goal.returns-clause-parses
returns-clause-parses c = record { from = λ rest parts o k. (c.in_ok-after.ensures.expects c.args.depth).from _ _ _ ((c.in_ok-inside.ensures.expects c.args.depth).from _ _ _ (c.in_ok-value.ensures.parses.from _ _ _ ((c.in_ok-next.ensures.expects c.args.depth).from _ _ _ (k)))) }
