use Rattle.std.proofs.Common.{◌≡◌, Err, rules, arith}
use Rattle.c_grammar.specs.Part as q
use Rattle.pt_tree.specs.ExpressionTree.{view_expr}
use Rattle.c_parser.proofs.Steps.{built, pushed}
use Rattle.c_parser.proofs.declarations.more_values.Goals as goal

pub loop-values-init : goal.loop-values-init
loop-values-init c = record { repeats = record { from = λ rest parts o k. k }; after = omega arith; within = omega arith }

pub returns-in_err-more-clause-parses : goal.returns-in_err-more-clause-parses
returns-in_err-more-clause-parses c = let is : c.from_residual.result ≡ Err c.in_err-more.field-0.0 = search rules in rw is (record { from = λ o e rest parts. c.loop-values.invariant.repeats.from _ _ _ ((c.in_err-more.ensures.fails c.args.depth).from o e _ _) })

pub returns-then-not-more-clause-parses : goal.returns-then-not-more-clause-parses
returns-then-not-more-clause-parses c = record { from = λ rest parts o k. c.loop-values.invariant.repeats.from _ _ _ ((c.in_ok-more.ensures.goes.second c.if-not-more.true).from _ _ _ _ (k)) }

pub returns-in_err-after-clause-parses : goal.returns-in_err-after-clause-parses
returns-in_err-after-clause-parses c = let is : c.from_residual-in_err-after.result ≡ Err c.in_err-after.field-0.0 = search rules in rw is (record { from = λ o e rest parts. c.loop-values.invariant.repeats.from _ _ _ ((c.in_ok-more.ensures.goes.first c.if-not-more.false).from _ _ _ _ ((c.in_err-after.ensures.expects c.args.depth).from o e _ _)) })

pub returns-in_err-again-clause-parses : goal.returns-in_err-again-clause-parses
returns-in_err-again-clause-parses c = let is : c.from_residual-in_err-again.result ≡ Err c.in_err-again.field-0.0 = search rules in rw is (record { from = λ o e rest parts. c.loop-values.invariant.repeats.from _ _ _ ((c.in_ok-more.ensures.goes.first c.if-not-more.false).from _ _ _ _ ((c.in_ok-after.ensures.expects c.args.depth).from _ _ _ ((c.in_err-again.ensures.fails c.args.depth).from o e _ _))) })

pub returns-then-not-again-clause-parses : goal.returns-then-not-again-clause-parses
returns-then-not-again-clause-parses c = record { from = λ rest parts o k. c.loop-values.invariant.repeats.from _ _ _ ((c.in_ok-more.ensures.goes.first c.if-not-more.false).from _ _ _ _ ((c.in_ok-after.ensures.expects c.args.depth).from _ _ _ ((c.in_ok-again.ensures.goes.second c.if-not-again.true).from _ _ _ _ (k)))) }

pub returns-in_err-one-clause-parses : goal.returns-in_err-one-clause-parses
returns-in_err-one-clause-parses c = let is : c.from_residual-in_err-one.result ≡ Err c.in_err-one.field-0.0 = search rules in rw is (record { from = λ o e rest parts. c.loop-values.invariant.repeats.from _ _ _ ((c.in_ok-more.ensures.goes.first c.if-not-more.false).from _ _ _ _ ((c.in_ok-after.ensures.expects c.args.depth).from _ _ _ ((c.in_ok-again.ensures.goes.first c.if-not-again.false).from _ _ _ _ (c.in_err-one.ensures.parses.from o e _ _)))) })

pub loop-values-preserved : goal.loop-values-preserved
loop-values-preserved c = record { repeats = record { from = λ rest parts o k. c.loop-values.invariant.repeats.from _ _ _ ((c.in_ok-more.ensures.goes.first c.if-not-more.false).from _ _ _ _ ((c.in_ok-after.ensures.expects c.args.depth).from _ _ _ ((c.in_ok-again.ensures.goes.first c.if-not-again.false).from _ _ _ _ (c.in_ok-one.ensures.parses.from _ _ _ (built _ _ _ _ _ _ _ _ _ (pushed q.exprs view_expr _ _ _ _ c.in_ok-push.ensures.items) (k)))))) }; after = omega (arith, c.loop-values.invariant.after, c.loop-values.invariant.within, c.in_ok-after.ensures.goes_on.0, c.in_ok-after.ensures.goes_on.1, c.in_ok-one.ensures.goes_on.0, c.in_ok-one.ensures.goes_on.1); within = omega (arith, c.loop-values.invariant.after, c.loop-values.invariant.within, c.in_ok-after.ensures.goes_on.0, c.in_ok-after.ensures.goes_on.1, c.in_ok-one.ensures.goes_on.0, c.in_ok-one.ensures.goes_on.1) }
