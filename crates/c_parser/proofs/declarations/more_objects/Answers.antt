use Rattle.std.proofs.Common.{◌≡◌, Err, rules, arith}
use Rattle.c_grammar.specs.Part as q
use Rattle.pt_tree.specs.StatementTree.{view_init_declarator}
use Rattle.c_parser.proofs.Steps.{built, pushed}
use Rattle.c_parser.proofs.declarations.more_objects.Goals as goal

pub loop-objects-init : goal.loop-objects-init
loop-objects-init c = record { repeats = record { from = λ rest parts o k. k }; after = omega arith; within = omega arith }

pub returns-in_err-more-clause-parses : goal.returns-in_err-more-clause-parses
returns-in_err-more-clause-parses c = let is : c.from_residual.result ≡ Err c.in_err-more.field-0.0 = search rules in rw is (record { from = λ o e rest parts. c.loop-objects.invariant.repeats.from _ _ _ ((c.in_err-more.ensures.fails c.args.depth).from o e _ _) })

pub returns-then-not-more-clause-parses : goal.returns-then-not-more-clause-parses
returns-then-not-more-clause-parses c = record { from = λ rest parts o k. c.loop-objects.invariant.repeats.from _ _ _ ((c.in_ok-more.ensures.goes.second c.if-not-more.true).from _ _ _ _ (k)) }

pub returns-in_err-after-clause-parses : goal.returns-in_err-after-clause-parses
returns-in_err-after-clause-parses c = let is : c.from_residual-in_err-after.result ≡ Err c.in_err-after.field-0.0 = search rules in rw is (record { from = λ o e rest parts. c.loop-objects.invariant.repeats.from _ _ _ ((c.in_ok-more.ensures.goes.first c.if-not-more.false).from _ _ _ _ ((c.in_err-after.ensures.expects c.args.depth).from o e _ _)) })

pub returns-in_err-one-clause-parses : goal.returns-in_err-one-clause-parses
returns-in_err-one-clause-parses c = let is : c.from_residual-in_err-one.result ≡ Err c.in_err-one.field-0.0 = search rules in rw is (record { from = λ o e rest parts. c.loop-objects.invariant.repeats.from _ _ _ ((c.in_ok-more.ensures.goes.first c.if-not-more.false).from _ _ _ _ ((c.in_ok-after.ensures.expects c.args.depth).from _ _ _ ((c.in_err-one.ensures.parses c.args.depth).from o e _ _))) })

pub returns-in_err-init-clause-parses : goal.returns-in_err-init-clause-parses
returns-in_err-init-clause-parses c = let is : c.from_residual-in_err-init.result ≡ Err c.in_err-init.field-0.0 = search rules in rw is (record { from = λ o e rest parts. c.loop-objects.invariant.repeats.from _ _ _ ((c.in_ok-more.ensures.goes.first c.if-not-more.false).from _ _ _ _ ((c.in_ok-after.ensures.expects c.args.depth).from _ _ _ ((c.in_ok-one.ensures.parses c.args.depth).from _ _ _ (c.in_err-init.ensures.parses.from o e _ _)))) })

pub loop-objects-preserved : goal.loop-objects-preserved
loop-objects-preserved c = record { repeats = record { from = λ rest parts o k. c.loop-objects.invariant.repeats.from _ _ _ ((c.in_ok-more.ensures.goes.first c.if-not-more.false).from _ _ _ _ ((c.in_ok-after.ensures.expects c.args.depth).from _ _ _ ((c.in_ok-one.ensures.parses c.args.depth).from _ _ _ (c.in_ok-init.ensures.parses.from _ _ _ (built _ _ _ _ _ _ _ _ _ (pushed q.init_declarators view_init_declarator _ _ _ _ c.in_ok-push.ensures.items) (k)))))) }; after = omega (arith, c.loop-objects.invariant.after, c.loop-objects.invariant.within, c.in_ok-after.ensures.goes_on.0, c.in_ok-after.ensures.goes_on.1, c.in_ok-one.ensures.goes_on.0, c.in_ok-one.ensures.goes_on.1, c.in_ok-init.ensures.goes_on.0, c.in_ok-init.ensures.goes_on.1); within = omega (arith, c.loop-objects.invariant.after, c.loop-objects.invariant.within, c.in_ok-after.ensures.goes_on.0, c.in_ok-after.ensures.goes_on.1, c.in_ok-one.ensures.goes_on.0, c.in_ok-one.ensures.goes_on.1, c.in_ok-init.ensures.goes_on.0, c.in_ok-init.ensures.goes_on.1) }
