use Rattle.std.proofs.Common.{◌≡◌, Err, rules, arith, sym}
use Rattle.c_parser.proofs.Steps.{built, same_top}
use Rattle.c_grammar.specs.Part as q
use Rattle.c_parser.proofs.specifiers.more_names.Goals as goal

pub loop-names-init : goal.loop-names-init
loop-names-init c = record { repeats = λ depth. record { from = λ rest parts o k. k }; after = omega arith; within = omega arith }

pub returns-in_err-more-clause-parses : goal.returns-in_err-more-clause-parses
returns-in_err-more-clause-parses c = λ depth. let is : c.from_residual.result ≡ Err c.in_err-more.field-0.0 = search rules in rw is (record { from = λ o e rest parts. (c.loop-names.invariant.repeats depth).from _ _ _ ((c.in_err-more.ensures.fails depth).from o e _ _) })

pub returns-then-not-more-clause-parses : goal.returns-then-not-more-clause-parses
returns-then-not-more-clause-parses c = λ depth. record { from = λ rest parts o k. (c.loop-names.invariant.repeats depth).from _ _ _ ((c.in_ok-more.ensures.goes.second c.if-not-more.true).from _ _ _ _ (k)) }

pub returns-in_err-after-clause-parses : goal.returns-in_err-after-clause-parses
returns-in_err-after-clause-parses c = λ depth. let is : c.from_residual-in_err-after.result ≡ Err c.in_err-after.field-0.0 = search rules in rw is (record { from = λ o e rest parts. (c.loop-names.invariant.repeats depth).from _ _ _ ((c.in_ok-more.ensures.goes.first c.if-not-more.false).from _ _ _ _ ((c.in_err-after.ensures.expects depth).from o e _ _)) })

pub returns-in_err-name-clause-parses : goal.returns-in_err-name-clause-parses
returns-in_err-name-clause-parses c = λ depth. let is : c.from_residual-in_err-name.result ≡ Err c.in_err-name.field-0.0 = search rules in rw is (record { from = λ o e rest parts. (c.loop-names.invariant.repeats depth).from _ _ _ ((c.in_ok-more.ensures.goes.first c.if-not-more.false).from _ _ _ _ ((c.in_ok-after.ensures.expects depth).from _ _ _ ((c.in_err-name.ensures.word depth).from o e _ _))) })

pub loop-names-preserved : goal.loop-names-preserved
loop-names-preserved c = record { repeats = λ depth. record { from = λ rest parts o k. (c.loop-names.invariant.repeats depth).from _ _ _ ((c.in_ok-more.ensures.goes.first c.if-not-more.false).from _ _ _ _ ((c.in_ok-after.ensures.expects depth).from _ _ _ ((c.in_ok-name.ensures.word depth).from _ _ _ (built _ _ _ _ _ _ _ _ _ (same_top q.names _ _ _ (sym c.in_ok-push.ensures.items)) (k))))) }; after = omega (arith, c.loop-names.invariant.after, c.loop-names.invariant.within, c.in_ok-after.ensures.goes_on.0, c.in_ok-after.ensures.goes_on.1, c.in_ok-name.ensures.goes_on); within = omega (arith, c.loop-names.invariant.after, c.loop-names.invariant.within, c.in_ok-after.ensures.goes_on.0, c.in_ok-after.ensures.goes_on.1, c.in_ok-name.ensures.goes_on) }
