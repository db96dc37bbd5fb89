use Rattle.std.proofs.Common.{◌≡◌, Err, rules}
use Rattle.c_parser.proofs.Steps.{built}
use Rattle.c_parser.proofs.labels.label.Goals as goal

pub returns-in_err-compares-clause-parses : goal.returns-in_err-compares-clause-parses
returns-in_err-compares-clause-parses c = let is : c.from_residual.result ≡ Err c.in_err-compares.field-0.0 = search rules in rw is (record { from = λ o e rest parts. (c.in_err-compares.ensures.fails c.args.depth).from o e _ _ })

pub returns-in_err-word-clause-parses : goal.returns-in_err-word-clause-parses
returns-in_err-word-clause-parses c = let is : c.from_residual-in_err-word.result ≡ Err c.in_err-word.field-0.0 = search rules in rw is (record { from = λ o e rest parts. (c.in_ok-compares.ensures.goes.first c.if-compares.true).from _ _ _ _ ((c.in_err-word.ensures.expects c.args.depth).from o e _ _) })

pub returns-in_err-value-clause-parses : goal.returns-in_err-value-clause-parses
returns-in_err-value-clause-parses c = let is : c.from_residual-in_err-value.result ≡ Err c.in_err-value.field-0.0 = search rules in rw is (record { from = λ o e rest parts. (c.in_ok-compares.ensures.goes.first c.if-compares.true).from _ _ _ _ ((c.in_ok-word.ensures.expects c.args.depth).from _ _ _ (c.in_err-value.ensures.parses.from o e _ _)) })

pub returns-in_err-next-clause-parses : goal.returns-in_err-next-clause-parses
returns-in_err-next-clause-parses c = let is : c.from_residual-in_err-next.result ≡ Err c.in_err-next.field-0.0 = search rules in rw is (record { from = λ o e rest parts. (c.in_ok-compares.ensures.goes.first c.if-compares.true).from _ _ _ _ ((c.in_ok-word.ensures.expects c.args.depth).from _ _ _ (c.in_ok-value.ensures.parses.from _ _ _ ((c.in_err-next.ensures.expects c.args.depth).from o e _ _))) })

pub returns-then-compares-clause-parses : goal.returns-then-compares-clause-parses
returns-then-compares-clause-parses c = record { from = λ rest parts o k. (c.in_ok-compares.ensures.goes.first c.if-compares.true).from _ _ _ _ ((c.in_ok-word.ensures.expects c.args.depth).from _ _ _ (c.in_ok-value.ensures.parses.from _ _ _ ((c.in_ok-next.ensures.expects c.args.depth).from _ _ _ (built _ _ _ _ _ _ _ _ _ (search rules) (k))))) }

pub returns-in_err-other-clause-parses : goal.returns-in_err-other-clause-parses
returns-in_err-other-clause-parses c = let is : c.from_residual-in_err-other.result ≡ Err c.in_err-other.field-0.0 = search rules in rw is (record { from = λ o e rest parts. (c.in_ok-compares.ensures.goes.second c.if-compares.false).from _ _ _ _ ((c.in_err-other.ensures.expects c.args.depth).from o e _ _) })

pub returns-in_err-end-clause-parses : goal.returns-in_err-end-clause-parses
returns-in_err-end-clause-parses c = let is : c.from_residual-in_err-end.result ≡ Err c.in_err-end.field-0.0 = search rules in rw is (record { from = λ o e rest parts. (c.in_ok-compares.ensures.goes.second c.if-compares.false).from _ _ _ _ ((c.in_ok-other.ensures.expects c.args.depth).from _ _ _ ((c.in_err-end.ensures.expects c.args.depth).from o e _ _)) })

pub returns-clause-parses : goal.returns-clause-parses
returns-clause-parses c = record { from = λ rest parts o k. (c.in_ok-compares.ensures.goes.second c.if-compares.false).from _ _ _ _ ((c.in_ok-other.ensures.expects c.args.depth).from _ _ _ ((c.in_ok-end.ensures.expects c.args.depth).from _ _ _ (built _ _ _ _ _ _ _ _ _ (search rules) (k)))) }
