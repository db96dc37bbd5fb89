use Rattle.std.proofs.Common.{◌≡◌, ◌<◌, ◌≤◌, ◌++◌, [], ◌∷◌, Ok, Err, rules, arith, sym, ap, ◌∙◌, length, map, subst}
use Rattle.c_grammar.specs.declared.symbol.Symbol.TheVariants as s
use Rattle.c_grammar.specs.Part as q
use Rattle.pt_tree.specs.ExpressionTree.{view_expr, view_link, view_postfix}
use Rattle.std.proofs.Common.{IfSome}
use Rattle.pt_tree.specs.ExpressionTree.{link}
use Rattle.c_grammar.specs.Machine.{takes, gives}
use Rattle.c_parser.specs.Parses.{Comes, Turns, Fails, Parses, Enters}
use Rattle.c_parser.specs.OperandNames.{unary_number, postfix_number}
use Rattle.c_parser.proofs.Climbing.{climbs_begin, climbs_skip, climbs_level, climbs_fail, climbs_end}
use Rattle.c_parser.proofs.Steps.{built, builds_on, same_top, pushed, by_rule, adds_by_rule, ends_by_rule, opened}
use Rattle.c_parser.specs.Parts.{of_expr, Adds}
use Rattle.c_parser.specs.Levels.{EntersLink}
use Rattle.c_parser.proofs.expressions.+expressions.Goals as goal

pub expression-returns-clause-parses : goal.expression-returns-clause-parses
expression-returns-clause-parses t c = opened of_expr c.args.tokens.now s.Expr c.args.at c.args.depth _ (omega arith) c.assignment.ensures.parses

pub assignment-returns-in_err-left-clause-parses : goal.assignment-returns-in_err-left-clause-parses
assignment-returns-in_err-left-clause-parses t c = let is : c.from_residual-in_err-left.result ≡ Err c.in_err-left.field-0.0 = search rules in rw is (record { from = λ o e rest parts. c.in_ok-begin.ensures.from _ _ _ _ (c.in_err-left.ensures.parses.from o e _ _) })

pub assignment-returns-in_err-assigns-clause-parses : goal.assignment-returns-in_err-assigns-clause-parses
assignment-returns-in_err-assigns-clause-parses t c = let is : c.from_residual-in_err-assigns.result ≡ Err c.in_err-assigns.field-0.0 = search rules in rw is (record { from = λ o e rest parts. c.in_ok-begin.ensures.from _ _ _ _ (c.in_ok-left.ensures.parses.from _ _ _ ((c.in_err-assigns.ensures.fails c.args.depth).from o e _ _)) })

pub assignment-returns-in_err-op-clause-parses : goal.assignment-returns-in_err-op-clause-parses
assignment-returns-in_err-op-clause-parses t c = let is : c.from_residual-in_err-op.result ≡ Err c.in_err-op.field-0.0 = search rules in rw is (record { from = λ o e rest parts. c.in_ok-begin.ensures.from _ _ _ _ (c.in_ok-left.ensures.parses.from _ _ _ ((c.in_ok-assigns.ensures.goes.first c.if-assigns.true).from _ _ _ _ ((c.in_err-op.ensures.parses c.args.depth).from o e _ _))) })

pub assignment-returns-in_err-value-clause-parses : goal.assignment-returns-in_err-value-clause-parses
assignment-returns-in_err-value-clause-parses t c = let is : c.from_residual-in_err-value.result ≡ Err c.in_err-value.field-0.0 = search rules in rw is (record { from = λ o e rest parts. c.in_ok-begin.ensures.from _ _ _ _ (c.in_ok-left.ensures.parses.from _ _ _ ((c.in_ok-assigns.ensures.goes.first c.if-assigns.true).from _ _ _ _ ((c.in_ok-op.ensures.parses c.args.depth).from _ _ _ (c.in_err-value.ensures.parses.from o e _ _)))) })

pub assignment-returns-then-assigns-clause-parses : goal.assignment-returns-then-assigns-clause-parses
assignment-returns-then-assigns-clause-parses t c = record { from = λ rest parts o k. c.in_ok-begin.ensures.from _ _ _ _ (c.in_ok-left.ensures.parses.from _ _ _ ((c.in_ok-assigns.ensures.goes.first c.if-assigns.true).from _ _ _ _ ((c.in_ok-op.ensures.parses c.args.depth).from _ _ _ (c.in_ok-value.ensures.parses.from _ _ _ (builds_on _ _ _ _ _ _ _ _ (built _ _ _ _ _ _ _ _ _ (search rules) (k))))))) }

pub assignment-returns-clause-parses : goal.assignment-returns-clause-parses
assignment-returns-clause-parses t c = record { from = λ rest parts o k. c.in_ok-begin.ensures.from _ _ _ _ (c.in_ok-left.ensures.parses.from _ _ _ ((c.in_ok-assigns.ensures.goes.second c.if-assigns.false).from _ _ _ _ (builds_on _ _ _ _ _ _ _ _ (built _ _ _ _ _ _ _ _ _ (search rules) (k))))) }

pub conditional-returns-in_err-test-clause-parses : goal.conditional-returns-in_err-test-clause-parses
conditional-returns-in_err-test-clause-parses t c = let is : c.from_residual-in_err-test.result ≡ Err c.in_err-test.field-0.0 = search rules in rw is (record { from = λ o e rest parts. c.in_ok-begin.ensures.from _ _ _ _ (c.in_err-test.ensures.parses.from o e _ _) })

pub conditional-returns-in_err-chooses-clause-parses : goal.conditional-returns-in_err-chooses-clause-parses
conditional-returns-in_err-chooses-clause-parses t c = let is : c.from_residual-in_err-chooses.result ≡ Err c.in_err-chooses.field-0.0 = search rules in rw is (record { from = λ o e rest parts. c.in_ok-begin.ensures.from _ _ _ _ (c.in_ok-test.ensures.parses.from _ _ _ ((c.in_err-chooses.ensures.fails c.args.depth).from o e _ _)) })

pub conditional-returns-in_err-inside-clause-parses : goal.conditional-returns-in_err-inside-clause-parses
conditional-returns-in_err-inside-clause-parses t c = let is : c.from_residual-in_err-inside.result ≡ Err c.in_err-inside.field-0.0 = search rules in rw is (record { from = λ o e rest parts. c.in_ok-begin.ensures.from _ _ _ _ (c.in_ok-test.ensures.parses.from _ _ _ ((c.in_ok-chooses.ensures.goes.first c.if-chooses.true).from _ _ _ _ ((c.in_err-inside.ensures.expects c.args.depth).from o e _ _))) })

pub conditional-returns-in_err-yes-clause-parses : goal.conditional-returns-in_err-yes-clause-parses
conditional-returns-in_err-yes-clause-parses t c = let is : c.from_residual-in_err-yes.result ≡ Err c.in_err-yes.field-0.0 = search rules in rw is (record { from = λ o e rest parts. c.in_ok-begin.ensures.from _ _ _ _ (c.in_ok-test.ensures.parses.from _ _ _ ((c.in_ok-chooses.ensures.goes.first c.if-chooses.true).from _ _ _ _ ((c.in_ok-inside.ensures.expects c.args.depth).from _ _ _ (c.in_err-yes.ensures.parses.from o e _ _)))) })

pub conditional-returns-in_err-after-clause-parses : goal.conditional-returns-in_err-after-clause-parses
conditional-returns-in_err-after-clause-parses t c = let is : c.from_residual-in_err-after.result ≡ Err c.in_err-after.field-0.0 = search rules in rw is (record { from = λ o e rest parts. c.in_ok-begin.ensures.from _ _ _ _ (c.in_ok-test.ensures.parses.from _ _ _ ((c.in_ok-chooses.ensures.goes.first c.if-chooses.true).from _ _ _ _ ((c.in_ok-inside.ensures.expects c.args.depth).from _ _ _ (c.in_ok-yes.ensures.parses.from _ _ _ ((c.in_err-after.ensures.expects c.args.depth).from o e _ _))))) })

pub conditional-returns-in_err-no-clause-parses : goal.conditional-returns-in_err-no-clause-parses
conditional-returns-in_err-no-clause-parses t c = let is : c.from_residual-in_err-no.result ≡ Err c.in_err-no.field-0.0 = search rules in rw is (record { from = λ o e rest parts. c.in_ok-begin.ensures.from _ _ _ _ (c.in_ok-test.ensures.parses.from _ _ _ ((c.in_ok-chooses.ensures.goes.first c.if-chooses.true).from _ _ _ _ ((c.in_ok-inside.ensures.expects c.args.depth).from _ _ _ (c.in_ok-yes.ensures.parses.from _ _ _ ((c.in_ok-after.ensures.expects c.args.depth).from _ _ _ (c.in_err-no.ensures.parses.from o e _ _)))))) })

pub conditional-returns-then-chooses-clause-parses : goal.conditional-returns-then-chooses-clause-parses
conditional-returns-then-chooses-clause-parses t c = record { from = λ rest parts o k. c.in_ok-begin.ensures.from _ _ _ _ (c.in_ok-test.ensures.parses.from _ _ _ ((c.in_ok-chooses.ensures.goes.first c.if-chooses.true).from _ _ _ _ ((c.in_ok-inside.ensures.expects c.args.depth).from _ _ _ (c.in_ok-yes.ensures.parses.from _ _ _ ((c.in_ok-after.ensures.expects c.args.depth).from _ _ _ (c.in_ok-no.ensures.parses.from _ _ _ (builds_on _ _ _ _ _ _ _ _ (built _ _ _ _ _ _ _ _ _ (search rules) (k))))))))) }

pub conditional-returns-clause-parses : goal.conditional-returns-clause-parses
conditional-returns-clause-parses t c = record { from = λ rest parts o k. c.in_ok-begin.ensures.from _ _ _ _ (c.in_ok-test.ensures.parses.from _ _ _ ((c.in_ok-chooses.ensures.goes.second c.if-chooses.false).from _ _ _ _ (builds_on _ _ _ _ _ _ _ _ (built _ _ _ _ _ _ _ _ _ (search rules) (k))))) }

pub nested_conditional-returns-clause-parses : goal.nested_conditional-returns-clause-parses
nested_conditional-returns-clause-parses t c = opened of_expr c.args.tokens.now s.Cond c.args.at c.args.depth _ (omega arith) c.conditional.ensures.parses

pub level_chain-returns-in_err-begin_operand-clause-parses : goal.level_chain-returns-in_err-begin_operand-clause-parses
level_chain-returns-in_err-begin_operand-clause-parses t c = let is : c.from_residual.result ≡ Err c.in_err-begin_operand.field-0.0 = search rules in rw is (record { from = λ o e rest parts. (c.in_err-begin_operand.ensures.fails c.args.depth).from o e _ _ })

pub level_chain-returns-in_err-first-clause-parses : goal.level_chain-returns-in_err-first-clause-parses
level_chain-returns-in_err-first-clause-parses t c = let is : c.from_residual-in_err-first.result ≡ Err c.in_err-first.field-0.0 = search rules in rw is (record { from = λ o e rest parts. c.in_ok-begin_operand.ensures.enters.from _ _ _ _ (c.in_err-first.ensures.parses.from o e _ _) })

pub level_chain-loop-position-init : goal.level_chain-loop-position-init
level_chain-loop-position-init t c = record {
  total = c.levels_within-count.ensures;
  climbs = climbs_begin _ _ _ _ _ _ _ c.in_ok-begin_operand.ensures.enters c.levels_within-count.ensures c.in_ok-first.ensures.parses;
  ends = c.levels_ended-ends.ensures;
  after = c.in_ok-first.ensures.goes_on.0;
  within = c.in_ok-first.ensures.goes_on.1;
}

pub level_chain-loop-position-preserved-then-position-ends : goal.level_chain-loop-position-preserved-then-position-ends
level_chain-loop-position-preserved-then-position-ends t c = record {
  total = c.loop-position.invariant.total;
  climbs = climbs_skip _ _ _ _ _ _ _ _ _ c.loop-position-test.true (omega arith) (c.loop-position.invariant.ends _ (omega arith)) c.loop-position.invariant.climbs;
  ends = c.loop-position.invariant.ends;
  after = c.loop-position.invariant.after;
  within = c.loop-position.invariant.within;
}

pub level_chain-returns-in_err-left-clause-parses : goal.level_chain-returns-in_err-left-clause-parses
level_chain-returns-in_err-left-clause-parses t c = let is : c.from_residual-in_err-left.result ≡ Err c.in_err-left.field-0.0 = search rules in rw is (climbs_fail _ _ _ _ _ _ _ _ _ _ c.level_at-here.ensures.level c.loop-position-test.true c.in_err-left.ensures.parses c.loop-position.invariant.climbs)

pub level_chain-loop-position-preserved : goal.level_chain-loop-position-preserved
level_chain-loop-position-preserved t c = record {
  total = c.loop-position.invariant.total;
  climbs = climbs_level _ _ _ _ _ _ _ _ _ _ _ _ c.level_at-here.ensures.level c.loop-position-test.true (omega arith) c.in_ok-left.ensures.parses c.loop-position.invariant.climbs;
  ends = c.levels_ended-there.ensures;
  after = omega (arith, c.loop-position.invariant.after, c.in_ok-left.ensures.goes_on.0);
  within = c.in_ok-left.ensures.goes_on.1;
}

pub level_chain-returns-clause-parses : goal.level_chain-returns-clause-parses
level_chain-returns-clause-parses t c = climbs_end _ _ _ _ _ _ _ _ (omega arith) c.loop-position.invariant.climbs

pub at_level-returns-in_err-links-clause-parses : goal.at_level-returns-in_err-links-clause-parses
at_level-returns-in_err-links-clause-parses t c = let is : c.from_residual.result ≡ Err c.in_err-links.field-0.0 = search rules in rw is (record { from = λ o e rest parts. built _ _ _ _ _ _ _ _ _ (same_top (λ xs. q.links (map view_link xs)) _ _ _ (sym c.new-none.ensures.items)) (c.in_err-links.ensures.parses.from o e _ _) })

pub at_level-returns-clause-parses : goal.at_level-returns-clause-parses
at_level-returns-clause-parses t c = record { from = λ rest parts o k. built _ _ _ _ _ _ _ _ _ (same_top (λ xs. q.links (map view_link xs)) _ _ _ (sym c.new-none.ensures.items)) (c.in_ok-links.ensures.parses.from _ _ _ (built _ _ _ _ _ _ _ _ _ (search rules) (k))) }

pub operand-returns-in-Some-clause-parses : goal.operand-returns-in-Some-clause-parses
operand-returns-in-Some-clause-parses t c = subst (λ x. Parses [] of_expr c.args.tokens.now (gives x ∷ []) c.args.at c.args.depth c.level_chain.result) c.in-Some.ensures.symbol c.level_chain.ensures.parses

pub operand-returns-in-None-clause-parses : goal.operand-returns-in-None-clause-parses
operand-returns-in-None-clause-parses t c = subst (λ x. Parses [] of_expr c.args.tokens.now (gives x ∷ []) c.args.at c.args.depth c.unary.result) c.in-None.ensures.symbol c.unary.ensures.parses

pub more_operands-loop-links-init : goal.more_operands-loop-links-init
more_operands-loop-links-init t c = record { repeats = record { from = λ rest parts o k. k }; after = omega arith; within = omega arith }

pub more_operands-returns-in_err-operator-clause-parses : goal.more_operands-returns-in_err-operator-clause-parses
more_operands-returns-in_err-operator-clause-parses t c = let is : c.from_residual.result ≡ Err c.in_err-operator.field-0.0 = search rules in rw is (record { from = λ o e rest parts. c.loop-links.invariant.repeats.from _ _ _ ((c.in_err-operator.ensures.fails c.args.depth).from o e _ _) })

pub more_operands-returns-in-None-clause-parses : goal.more_operands-returns-in-None-clause-parses
more_operands-returns-in-None-clause-parses t c = record { from = λ rest parts o k. c.loop-links.invariant.repeats.from _ _ _ ((subst (EntersLink c.args.tokens.now c.args.level c.loop-links.next) c.in-None.is c.in_ok-operator.ensures.enters).from _ _ _ _ k) }

pub more_operands-returns-in_err-after-in-Some-clause-parses : goal.more_operands-returns-in_err-after-in-Some-clause-parses
more_operands-returns-in_err-after-in-Some-clause-parses t c = let is : c.from_residual-in_err-after-in-Some.result ≡ Err c.in_err-after-in-Some.field-0.0 = search rules in rw is (record { from = λ o e rest parts. c.loop-links.invariant.repeats.from _ _ _ ((subst (EntersLink c.args.tokens.now c.args.level c.loop-links.next) c.in-Some.is c.in_ok-operator.ensures.enters).from _ _ _ _ ((subst (λ x. Fails c.args.tokens.now (takes x ∷ []) c.loop-links.next c.args.depth [] c.in_err-after-in-Some.field-0.0) c.kind_by-kind.ensures.kind (c.in_err-after-in-Some.ensures.expects c.args.depth)).from o e _ _)) })

pub more_operands-returns-in_err-one-in-Some-clause-parses : goal.more_operands-returns-in_err-one-in-Some-clause-parses
more_operands-returns-in_err-one-in-Some-clause-parses t c = let is : c.from_residual-in_err-one-in-Some.result ≡ Err c.in_err-one-in-Some.field-0.0 = search rules in rw is (record { from = λ o e rest parts. c.loop-links.invariant.repeats.from _ _ _ ((subst (EntersLink c.args.tokens.now c.args.level c.loop-links.next) c.in-Some.is c.in_ok-operator.ensures.enters).from _ _ _ _ ((subst (λ x. Turns c.args.tokens.now (takes x ∷ []) c.loop-links.next c.args.depth [] [] c.in_ok-after-in-Some.after) c.kind_by-kind.ensures.kind (c.in_ok-after-in-Some.ensures.expects c.args.depth)).from _ _ _ (c.in_err-one-in-Some.ensures.parses.from o e _ _))) })

pub more_operands-loop-links-preserved : goal.more_operands-loop-links-preserved
more_operands-loop-links-preserved t c = record { repeats = record { from = λ rest parts o k. c.loop-links.invariant.repeats.from _ _ _ ((subst (EntersLink c.args.tokens.now c.args.level c.loop-links.next) c.in-Some.is c.in_ok-operator.ensures.enters).from _ _ _ _ ((subst (λ x. Turns c.args.tokens.now (takes x ∷ []) c.loop-links.next c.args.depth [] [] c.in_ok-after-in-Some.after) c.kind_by-kind.ensures.kind (c.in_ok-after-in-Some.ensures.expects c.args.depth)).from _ _ _ (c.in_ok-one-in-Some.ensures.parses.from _ _ _ (built _ _ _ _ _ _ _ _ _ (ap (λ z. q.links (map view_link c.loop-links.links.items ++ z ∷ []) ∷ parts) (ap (λ z. link z c.in-Some.op (view_expr c.in_ok-one-in-Some.one.tree)) (sym c.span_of-span.ensures)) ∙ pushed q.links view_link _ _ _ _ c.in_ok-push_few-in-Some.ensures.items) k)))) }; after = omega (arith, c.loop-links.invariant.after, c.loop-links.invariant.within, c.in_ok-after-in-Some.ensures.goes_on.0, c.in_ok-after-in-Some.ensures.goes_on.1, c.in_ok-one-in-Some.ensures.goes_on.0, c.in_ok-one-in-Some.ensures.goes_on.1); within = omega (arith, c.loop-links.invariant.after, c.loop-links.invariant.within, c.in_ok-after-in-Some.ensures.goes_on.0, c.in_ok-after-in-Some.ensures.goes_on.1, c.in_ok-one-in-Some.ensures.goes_on.0, c.in_ok-one-in-Some.ensures.goes_on.1) }

pub unary-returns-in-Parenthesised-clause-parses : goal.unary-returns-in-Parenthesised-clause-parses
unary-returns-in-Parenthesised-clause-parses t c = by_rule [] of_expr c.args.tokens.now s.Unary c.args.at c.args.depth 93 _ (subst (λ r. Enters c.args.tokens.now s.Unary c.args.at (unary_number r)) c.in-Parenthesised.is c.in_ok-rule.ensures.enters) c.parenthesised.ensures.parses

pub unary-returns-in-Prefixed-clause-parses : goal.unary-returns-in-Prefixed-clause-parses
unary-returns-in-Prefixed-clause-parses t c = by_rule [] of_expr c.args.tokens.now s.Unary c.args.at c.args.depth 94 _ (subst (λ r. Enters c.args.tokens.now s.Unary c.args.at (unary_number r)) c.in-Prefixed.is c.in_ok-rule.ensures.enters) c.prefixed.ensures.parses

pub unary-returns-in-Increment-clause-parses : goal.unary-returns-in-Increment-clause-parses
unary-returns-in-Increment-clause-parses t c = by_rule [] of_expr c.args.tokens.now s.Unary c.args.at c.args.depth 95 _ (subst (λ r. Enters c.args.tokens.now s.Unary c.args.at (unary_number r)) c.in-Increment.is c.in_ok-rule.ensures.enters) c.step.ensures.parses

pub unary-returns-in-Decrement-clause-parses : goal.unary-returns-in-Decrement-clause-parses
unary-returns-in-Decrement-clause-parses t c = by_rule [] of_expr c.args.tokens.now s.Unary c.args.at c.args.depth 96 _ (subst (λ r. Enters c.args.tokens.now s.Unary c.args.at (unary_number r)) c.in-Decrement.is c.in_ok-rule.ensures.enters) c.step-in-Decrement.ensures.parses

pub unary-returns-in-Postfixed-clause-parses : goal.unary-returns-in-Postfixed-clause-parses
unary-returns-in-Postfixed-clause-parses t c = by_rule [] of_expr c.args.tokens.now s.Unary c.args.at c.args.depth 97 _ (subst (λ r. Enters c.args.tokens.now s.Unary c.args.at (unary_number r)) c.in-Postfixed.is c.in_ok-rule.ensures.enters) c.with_postfixes.ensures.parses

pub nested_unary-returns-clause-parses : goal.nested_unary-returns-clause-parses
nested_unary-returns-clause-parses t c = opened of_expr c.args.tokens.now s.Unary c.args.at c.args.depth _ (omega arith) c.unary.ensures.parses

pub parenthesised-returns-in_err-inside-clause-parses : goal.parenthesised-returns-in_err-inside-clause-parses
parenthesised-returns-in_err-inside-clause-parses t c = let is : c.from_residual.result ≡ Err c.in_err-inside.field-0.0 = search rules in rw is (record { from = λ o e rest parts. (c.in_err-inside.ensures.expects c.args.depth).from o e _ _ })

pub parenthesised-returns-in_err-casts-clause-parses : goal.parenthesised-returns-in_err-casts-clause-parses
parenthesised-returns-in_err-casts-clause-parses t c = let is : c.from_residual-in_err-casts.result ≡ Err c.in_err-casts.field-0.0 = search rules in rw is (record { from = λ o e rest parts. (c.in_ok-inside.ensures.expects c.args.depth).from _ _ _ ((c.in_err-casts.ensures.fails c.args.depth).from o e _ _) })

pub parenthesised-returns-in_err-specs-clause-parses : goal.parenthesised-returns-in_err-specs-clause-parses
parenthesised-returns-in_err-specs-clause-parses t c = let is : c.from_residual-in_err-specs.result ≡ Err c.in_err-specs.field-0.0 = search rules in rw is (record { from = λ o e rest parts. (c.in_ok-inside.ensures.expects c.args.depth).from _ _ _ ((c.in_ok-casts.ensures.goes.first c.if-casts.true).from _ _ _ _ (c.in_err-specs.ensures.parses.from o e _ _)) })

pub parenthesised-returns-in_err-pointer-clause-parses : goal.parenthesised-returns-in_err-pointer-clause-parses
parenthesised-returns-in_err-pointer-clause-parses t c = let is : c.from_residual-in_err-pointer.result ≡ Err c.in_err-pointer.field-0.0 = search rules in rw is (record { from = λ o e rest parts. (c.in_ok-inside.ensures.expects c.args.depth).from _ _ _ ((c.in_ok-casts.ensures.goes.first c.if-casts.true).from _ _ _ _ (c.in_ok-specs.ensures.parses.from _ _ _ ((c.in_err-pointer.ensures.parses c.args.depth).from o e _ _))) })

pub parenthesised-returns-in_err-after-clause-parses : goal.parenthesised-returns-in_err-after-clause-parses
parenthesised-returns-in_err-after-clause-parses t c = let is : c.from_residual-in_err-after.result ≡ Err c.in_err-after.field-0.0 = search rules in rw is (record { from = λ o e rest parts. (c.in_ok-inside.ensures.expects c.args.depth).from _ _ _ ((c.in_ok-casts.ensures.goes.first c.if-casts.true).from _ _ _ _ (c.in_ok-specs.ensures.parses.from _ _ _ ((c.in_ok-pointer.ensures.parses c.args.depth).from _ _ _ ((c.in_err-after.ensures.expects c.args.depth).from o e _ _)))) })

pub parenthesised-returns-in_err-operand-clause-parses : goal.parenthesised-returns-in_err-operand-clause-parses
parenthesised-returns-in_err-operand-clause-parses t c = let is : c.from_residual-in_err-operand.result ≡ Err c.in_err-operand.field-0.0 = search rules in rw is (record { from = λ o e rest parts. (c.in_ok-inside.ensures.expects c.args.depth).from _ _ _ ((c.in_ok-casts.ensures.goes.first c.if-casts.true).from _ _ _ _ (c.in_ok-specs.ensures.parses.from _ _ _ ((c.in_ok-pointer.ensures.parses c.args.depth).from _ _ _ ((c.in_ok-after.ensures.expects c.args.depth).from _ _ _ (c.in_err-operand.ensures.parses.from o e _ _))))) })

pub parenthesised-returns-then-casts-clause-parses : goal.parenthesised-returns-then-casts-clause-parses
parenthesised-returns-then-casts-clause-parses t c = record { from = λ rest parts o k. (c.in_ok-inside.ensures.expects c.args.depth).from _ _ _ ((c.in_ok-casts.ensures.goes.first c.if-casts.true).from _ _ _ _ (c.in_ok-specs.ensures.parses.from _ _ _ ((c.in_ok-pointer.ensures.parses c.args.depth).from _ _ _ ((c.in_ok-after.ensures.expects c.args.depth).from _ _ _ (c.in_ok-operand.ensures.parses.from _ _ _ (builds_on _ _ _ _ _ _ _ _ (built _ _ _ _ _ _ _ _ _ (search rules) (k)))))))) }

pub parenthesised-returns-in_err-inner-clause-parses : goal.parenthesised-returns-in_err-inner-clause-parses
parenthesised-returns-in_err-inner-clause-parses t c = let is : c.from_residual-in_err-inner.result ≡ Err c.in_err-inner.field-0.0 = search rules in rw is (record { from = λ o e rest parts. (c.in_ok-inside.ensures.expects c.args.depth).from _ _ _ ((c.in_ok-casts.ensures.goes.second c.if-casts.false).from _ _ _ _ (c.in_err-inner.ensures.parses.from o e _ _)) })

pub parenthesised-returns-in_err-closed-clause-parses : goal.parenthesised-returns-in_err-closed-clause-parses
parenthesised-returns-in_err-closed-clause-parses t c = let is : c.from_residual-in_err-closed.result ≡ Err c.in_err-closed.field-0.0 = search rules in rw is (record { from = λ o e rest parts. (c.in_ok-inside.ensures.expects c.args.depth).from _ _ _ ((c.in_ok-casts.ensures.goes.second c.if-casts.false).from _ _ _ _ (c.in_ok-inner.ensures.parses.from _ _ _ ((c.in_err-closed.ensures.expects c.args.depth).from o e _ _))) })

pub parenthesised-returns-in_err-behind-clause-parses : goal.parenthesised-returns-in_err-behind-clause-parses
parenthesised-returns-in_err-behind-clause-parses t c = let is : c.from_residual-in_err-behind.result ≡ Err c.in_err-behind.field-0.0 = search rules in rw is (record { from = λ o e rest parts. (c.in_ok-inside.ensures.expects c.args.depth).from _ _ _ ((c.in_ok-casts.ensures.goes.second c.if-casts.false).from _ _ _ _ (c.in_ok-inner.ensures.parses.from _ _ _ ((c.in_ok-closed.ensures.expects c.args.depth).from _ _ _ (built _ _ _ _ _ _ _ _ _ (same_top (λ xs. q.postfixes (map view_postfix xs)) _ _ _ (sym c.new-none.ensures.items)) (c.in_err-behind.ensures.parses.from o e _ _))))) })

pub parenthesised-returns-clause-parses : goal.parenthesised-returns-clause-parses
parenthesised-returns-clause-parses t c = record { from = λ rest parts o k. (c.in_ok-inside.ensures.expects c.args.depth).from _ _ _ ((c.in_ok-casts.ensures.goes.second c.if-casts.false).from _ _ _ _ (c.in_ok-inner.ensures.parses.from _ _ _ ((c.in_ok-closed.ensures.expects c.args.depth).from _ _ _ (built _ _ _ _ _ _ _ _ _ (same_top (λ xs. q.postfixes (map view_postfix xs)) _ _ _ (sym c.new-none.ensures.items)) (c.in_ok-behind.ensures.parses.from _ _ _ (builds_on _ _ _ _ _ _ _ _ (built _ _ _ _ _ _ _ _ _ (search rules) (k)))))))) }

pub prefixed-returns-in_err-op-clause-parses : goal.prefixed-returns-in_err-op-clause-parses
prefixed-returns-in_err-op-clause-parses t c = let is : c.from_residual.result ≡ Err c.in_err-op.field-0.0 = search rules in rw is (record { from = λ o e rest parts. (c.in_err-op.ensures.parses c.args.depth).from o e _ _ })

pub prefixed-returns-in_err-operand-clause-parses : goal.prefixed-returns-in_err-operand-clause-parses
prefixed-returns-in_err-operand-clause-parses t c = let is : c.from_residual-in_err-operand.result ≡ Err c.in_err-operand.field-0.0 = search rules in rw is (record { from = λ o e rest parts. (c.in_ok-op.ensures.parses c.args.depth).from _ _ _ (c.in_err-operand.ensures.parses.from o e _ _) })

pub prefixed-returns-clause-parses : goal.prefixed-returns-clause-parses
prefixed-returns-clause-parses t c = record { from = λ rest parts o k. (c.in_ok-op.ensures.parses c.args.depth).from _ _ _ (c.in_ok-operand.ensures.parses.from _ _ _ (built _ _ _ _ _ _ _ _ _ (search rules) (k))) }

pub step-returns-in_err-after-clause-parses : goal.step-returns-in_err-after-clause-parses
step-returns-in_err-after-clause-parses t c = let is : c.from_residual.result ≡ Err c.in_err-after.field-0.0 = search rules in rw is (record { from = λ o e rest parts. (c.in_err-after.ensures.expects c.args.depth).from o e _ _ })

pub step-returns-in_err-operand-clause-parses : goal.step-returns-in_err-operand-clause-parses
step-returns-in_err-operand-clause-parses t c = let is : c.from_residual-in_err-operand.result ≡ Err c.in_err-operand.field-0.0 = search rules in rw is (record { from = λ o e rest parts. (c.in_ok-after.ensures.expects c.args.depth).from _ _ _ (c.in_err-operand.ensures.parses.from o e _ _) })

pub step-returns-clause-parses : goal.step-returns-clause-parses
step-returns-clause-parses t c = record { from = λ rest parts o k. (c.in_ok-after.ensures.expects c.args.depth).from _ _ _ (c.in_ok-operand.ensures.parses.from _ _ _ (built _ _ _ _ _ _ _ _ _ (search rules) (k))) }

pub with_postfixes-returns-in_err-first-clause-parses : goal.with_postfixes-returns-in_err-first-clause-parses
with_postfixes-returns-in_err-first-clause-parses t c = let is : c.from_residual.result ≡ Err c.in_err-first.field-0.0 = search rules in rw is (record { from = λ o e rest parts. (c.in_err-first.ensures.parses c.args.depth).from o e _ _ })

pub with_postfixes-returns-in_err-behind-clause-parses : goal.with_postfixes-returns-in_err-behind-clause-parses
with_postfixes-returns-in_err-behind-clause-parses t c = let is : c.from_residual-in_err-behind.result ≡ Err c.in_err-behind.field-0.0 = search rules in rw is (record { from = λ o e rest parts. (c.in_ok-first.ensures.parses c.args.depth).from _ _ _ (built _ _ _ _ _ _ _ _ _ (same_top (λ xs. q.postfixes (map view_postfix xs)) _ _ _ (sym c.new-none.ensures.items)) (c.in_err-behind.ensures.parses.from o e _ _)) })

pub with_postfixes-returns-clause-parses : goal.with_postfixes-returns-clause-parses
with_postfixes-returns-clause-parses t c = record { from = λ rest parts o k. (c.in_ok-first.ensures.parses c.args.depth).from _ _ _ (built _ _ _ _ _ _ _ _ _ (same_top (λ xs. q.postfixes (map view_postfix xs)) _ _ _ (sym c.new-none.ensures.items)) (c.in_ok-behind.ensures.parses.from _ _ _ (built _ _ _ _ _ _ _ _ _ (search rules) (k)))) }

pub more_postfixes-loop-postfixes-init : goal.more_postfixes-loop-postfixes-init
more_postfixes-loop-postfixes-init t c = record { repeats = record { from = λ rest parts o k. k }; after = omega arith; within = omega arith }

pub more_postfixes-returns-in_err-found-clause-parses : goal.more_postfixes-returns-in_err-found-clause-parses
more_postfixes-returns-in_err-found-clause-parses t c = let is : c.from_residual.result ≡ Err c.in_err-found.field-0.0 = search rules in rw is (record { from = λ o e rest parts. c.loop-postfixes.invariant.repeats.from _ _ _ ((c.in_err-found.ensures.parses _).from o e _ _) })

pub more_postfixes-returns-in-None-clause-parses : goal.more_postfixes-returns-in-None-clause-parses
more_postfixes-returns-in-None-clause-parses t c = record { from = λ rest parts o k. c.loop-postfixes.invariant.repeats.from _ _ _ ((subst (λ z. Adds c.args.tokens.now (gives s.Postfixes ∷ []) c.loop-postfixes.next c.args.depth (Ok z)) c.in-None.is c.in_ok-found.ensures.parses).from _ _ _ k) }

pub more_postfixes-loop-postfixes-preserved : goal.more_postfixes-loop-postfixes-preserved
more_postfixes-loop-postfixes-preserved t c = record { repeats = record { from = λ rest parts o k. c.loop-postfixes.invariant.repeats.from _ _ _ ((subst (λ z. Adds c.args.tokens.now (gives s.Postfixes ∷ []) c.loop-postfixes.next c.args.depth (Ok z)) c.in-Some.is c.in_ok-found.ensures.parses).from _ _ _ _ (subst (λ z. Comes c.args.tokens.now (gives s.Postfixes ∷ rest) c.in-Some.one.next c.args.depth z o) (sym (pushed q.postfixes view_postfix _ _ _ parts c.in_ok-push_few-in-Some.ensures.items)) k)) }; after = omega (arith, c.loop-postfixes.invariant.after, c.loop-postfixes.invariant.within, subst (λ z. IfSome z (λ p. (c.loop-postfixes.next < p.next) × (p.next ≤ length c.args.tokens.now))) c.in-Some.is c.in_ok-found.ensures.goes_on); within = omega (arith, c.loop-postfixes.invariant.after, c.loop-postfixes.invariant.within, subst (λ z. IfSome z (λ p. (c.loop-postfixes.next < p.next) × (p.next ≤ length c.args.tokens.now))) c.in-Some.is c.in_ok-found.ensures.goes_on) }

pub postfix-returns-in-Index-clause-parses : goal.postfix-returns-in-Index-clause-parses
postfix-returns-in-Index-clause-parses t c = adds_by_rule c.args.tokens.now c.args.at c.args.depth 100 _ (subst (λ r. Enters c.args.tokens.now s.Postfixes c.args.at (postfix_number r)) c.in-Index.is c.in_ok-rule.ensures.enters) c.index.ensures.parses

pub postfix-returns-in-Call-clause-parses : goal.postfix-returns-in-Call-clause-parses
postfix-returns-in-Call-clause-parses t c = adds_by_rule c.args.tokens.now c.args.at c.args.depth 101 _ (subst (λ r. Enters c.args.tokens.now s.Postfixes c.args.at (postfix_number r)) c.in-Call.is c.in_ok-rule.ensures.enters) c.call.ensures.parses

pub postfix-returns-in-Dot-clause-parses : goal.postfix-returns-in-Dot-clause-parses
postfix-returns-in-Dot-clause-parses t c = adds_by_rule c.args.tokens.now c.args.at c.args.depth 102 _ (subst (λ r. Enters c.args.tokens.now s.Postfixes c.args.at (postfix_number r)) c.in-Dot.is c.in_ok-rule.ensures.enters) c.dot.ensures.parses

pub postfix-returns-in-Arrow-clause-parses : goal.postfix-returns-in-Arrow-clause-parses
postfix-returns-in-Arrow-clause-parses t c = adds_by_rule c.args.tokens.now c.args.at c.args.depth 103 _ (subst (λ r. Enters c.args.tokens.now s.Postfixes c.args.at (postfix_number r)) c.in-Arrow.is c.in_ok-rule.ensures.enters) c.arrow.ensures.parses

pub postfix-returns-in-Increment-clause-parses : goal.postfix-returns-in-Increment-clause-parses
postfix-returns-in-Increment-clause-parses t c = adds_by_rule c.args.tokens.now c.args.at c.args.depth 104 _ (subst (λ r. Enters c.args.tokens.now s.Postfixes c.args.at (postfix_number r)) c.in-Increment.is c.in_ok-rule.ensures.enters) c.increment.ensures.parses

pub postfix-returns-in-Decrement-clause-parses : goal.postfix-returns-in-Decrement-clause-parses
postfix-returns-in-Decrement-clause-parses t c = adds_by_rule c.args.tokens.now c.args.at c.args.depth 105 _ (subst (λ r. Enters c.args.tokens.now s.Postfixes c.args.at (postfix_number r)) c.in-Decrement.is c.in_ok-rule.ensures.enters) c.decrement.ensures.parses

pub postfix-returns-in_err-rule-clause-parses : goal.postfix-returns-in_err-rule-clause-parses
postfix-returns-in_err-rule-clause-parses t c = let is : c.from_residual.result ≡ Err c.in_err-rule.field-0.0 = search rules in rw is (λ ps. record { from = λ o e rest parts. (c.in_err-rule.ensures.fails c.args.depth).from o e _ _ })

pub postfix-returns-in-End-clause-parses : goal.postfix-returns-in-End-clause-parses
postfix-returns-in-End-clause-parses t c = ends_by_rule c.args.tokens.now c.args.at c.args.depth (subst (λ r. Enters c.args.tokens.now s.Postfixes c.args.at (postfix_number r)) c.in-End.is c.in_ok-rule.ensures.enters)

pub index-returns-in_err-inside-clause-parses : goal.index-returns-in_err-inside-clause-parses
index-returns-in_err-inside-clause-parses t c = let is : c.from_residual.result ≡ Err c.in_err-inside.field-0.0 = search rules in rw is (λ ps. record { from = λ o e rest parts. (c.in_err-inside.ensures.expects c.args.depth).from o e _ _ })

pub index-returns-in_err-place-clause-parses : goal.index-returns-in_err-place-clause-parses
index-returns-in_err-place-clause-parses t c = let is : c.from_residual-in_err-place.result ≡ Err c.in_err-place.field-0.0 = search rules in rw is (λ ps. record { from = λ o e rest parts. (c.in_ok-inside.ensures.expects c.args.depth).from _ _ _ (c.in_err-place.ensures.parses.from o e _ _) })

pub index-returns-in_err-next-clause-parses : goal.index-returns-in_err-next-clause-parses
index-returns-in_err-next-clause-parses t c = let is : c.from_residual-in_err-next.result ≡ Err c.in_err-next.field-0.0 = search rules in rw is (λ ps. record { from = λ o e rest parts. (c.in_ok-inside.ensures.expects c.args.depth).from _ _ _ (c.in_ok-place.ensures.parses.from _ _ _ ((c.in_err-next.ensures.expects c.args.depth).from o e _ _)) })

pub index-returns-clause-parses : goal.index-returns-clause-parses
index-returns-clause-parses t c = record { from = λ ps rest parts o k. (c.in_ok-inside.ensures.expects c.args.depth).from _ _ _ (c.in_ok-place.ensures.parses.from _ _ _ ((c.in_ok-next.ensures.expects c.args.depth).from _ _ _ (built _ _ _ _ _ _ _ _ _ (search rules) (k)))) }

pub call-returns-in_err-inside-clause-parses : goal.call-returns-in_err-inside-clause-parses
call-returns-in_err-inside-clause-parses t c = let is : c.from_residual.result ≡ Err c.in_err-inside.field-0.0 = search rules in rw is (λ ps. record { from = λ o e rest parts. (c.in_err-inside.ensures.expects c.args.depth).from o e _ _ })

pub call-returns-in_err-values-clause-parses : goal.call-returns-in_err-values-clause-parses
call-returns-in_err-values-clause-parses t c = let is : c.from_residual-in_err-values.result ≡ Err c.in_err-values.field-0.0 = search rules in rw is (λ ps. record { from = λ o e rest parts. (c.in_ok-inside.ensures.expects c.args.depth).from _ _ _ (c.in_err-values.ensures.parses.from o e _ _) })

pub call-returns-in_err-next-clause-parses : goal.call-returns-in_err-next-clause-parses
call-returns-in_err-next-clause-parses t c = let is : c.from_residual-in_err-next.result ≡ Err c.in_err-next.field-0.0 = search rules in rw is (λ ps. record { from = λ o e rest parts. (c.in_ok-inside.ensures.expects c.args.depth).from _ _ _ (c.in_ok-values.ensures.parses.from _ _ _ ((c.in_err-next.ensures.expects c.args.depth).from o e _ _)) })

pub call-returns-clause-parses : goal.call-returns-clause-parses
call-returns-clause-parses t c = record { from = λ ps rest parts o k. (c.in_ok-inside.ensures.expects c.args.depth).from _ _ _ (c.in_ok-values.ensures.parses.from _ _ _ ((c.in_ok-next.ensures.expects c.args.depth).from _ _ _ (built _ _ _ _ _ _ _ _ _ (search rules) (k)))) }

pub arguments-returns-in_err-stands-clause-parses : goal.arguments-returns-in_err-stands-clause-parses
arguments-returns-in_err-stands-clause-parses t c = let is : c.from_residual.result ≡ Err c.in_err-stands.field-0.0 = search rules in rw is (record { from = λ o e rest parts. (c.in_err-stands.ensures.fails c.args.depth).from o e _ _ })

pub arguments-returns-in_err-first-clause-parses : goal.arguments-returns-in_err-first-clause-parses
arguments-returns-in_err-first-clause-parses t c = let is : c.from_residual-in_err-first.result ≡ Err c.in_err-first.field-0.0 = search rules in rw is (record { from = λ o e rest parts. (c.in_ok-stands.ensures.goes.first c.if-stands.true).from _ _ _ _ (c.in_err-first.ensures.parses.from o e _ _) })

pub arguments-returns-in_err-all-clause-parses : goal.arguments-returns-in_err-all-clause-parses
arguments-returns-in_err-all-clause-parses t c = let is : c.from_residual-in_err-all.result ≡ Err c.in_err-all.field-0.0 = search rules in rw is (record { from = λ o e rest parts. (c.in_ok-stands.ensures.goes.first c.if-stands.true).from _ _ _ _ (c.in_ok-first.ensures.parses.from _ _ _ (built _ _ _ _ _ _ _ _ _ (same_top (λ xs. q.exprs (map view_expr xs)) _ _ _ (sym c.in_ok-values.ensures)) (c.in_err-all.ensures.parses.from o e _ _))) })

pub arguments-returns-then-stands-clause-parses : goal.arguments-returns-then-stands-clause-parses
arguments-returns-then-stands-clause-parses t c = record { from = λ rest parts o k. (c.in_ok-stands.ensures.goes.first c.if-stands.true).from _ _ _ _ (c.in_ok-first.ensures.parses.from _ _ _ (built _ _ _ _ _ _ _ _ _ (same_top (λ xs. q.exprs (map view_expr xs)) _ _ _ (sym c.in_ok-values.ensures)) (c.in_ok-all.ensures.parses.from _ _ _ (k)))) }

pub arguments-returns-clause-parses : goal.arguments-returns-clause-parses
arguments-returns-clause-parses t c = record { from = λ rest parts o k. (c.in_ok-stands.ensures.goes.second c.if-stands.false).from _ _ _ _ (built _ _ _ _ _ _ _ _ _ (search rules) (k)) }

pub more_arguments-loop-values-init : goal.more_arguments-loop-values-init
more_arguments-loop-values-init t c = record { repeats = record { from = λ rest parts o k. k }; after = omega arith; within = omega arith }

pub more_arguments-returns-in_err-more-clause-parses : goal.more_arguments-returns-in_err-more-clause-parses
more_arguments-returns-in_err-more-clause-parses t c = let is : c.from_residual.result ≡ Err c.in_err-more.field-0.0 = search rules in rw is (record { from = λ o e rest parts. c.loop-values.invariant.repeats.from _ _ _ ((c.in_err-more.ensures.fails c.args.depth).from o e _ _) })

pub more_arguments-returns-then-not-more-clause-parses : goal.more_arguments-returns-then-not-more-clause-parses
more_arguments-returns-then-not-more-clause-parses t c = record { from = λ rest parts o k. c.loop-values.invariant.repeats.from _ _ _ ((c.in_ok-more.ensures.goes.second c.if-not-more.true).from _ _ _ _ (k)) }

pub more_arguments-returns-in_err-after-clause-parses : goal.more_arguments-returns-in_err-after-clause-parses
more_arguments-returns-in_err-after-clause-parses t c = let is : c.from_residual-in_err-after.result ≡ Err c.in_err-after.field-0.0 = search rules in rw is (record { from = λ o e rest parts. c.loop-values.invariant.repeats.from _ _ _ ((c.in_ok-more.ensures.goes.first c.if-not-more.false).from _ _ _ _ ((c.in_err-after.ensures.expects c.args.depth).from o e _ _)) })

pub more_arguments-returns-in_err-one-clause-parses : goal.more_arguments-returns-in_err-one-clause-parses
more_arguments-returns-in_err-one-clause-parses t c = let is : c.from_residual-in_err-one.result ≡ Err c.in_err-one.field-0.0 = search rules in rw is (record { from = λ o e rest parts. c.loop-values.invariant.repeats.from _ _ _ ((c.in_ok-more.ensures.goes.first c.if-not-more.false).from _ _ _ _ ((c.in_ok-after.ensures.expects c.args.depth).from _ _ _ (c.in_err-one.ensures.parses.from o e _ _))) })

pub more_arguments-loop-values-preserved : goal.more_arguments-loop-values-preserved
more_arguments-loop-values-preserved t c = record { repeats = record { from = λ rest parts o k. c.loop-values.invariant.repeats.from _ _ _ ((c.in_ok-more.ensures.goes.first c.if-not-more.false).from _ _ _ _ ((c.in_ok-after.ensures.expects c.args.depth).from _ _ _ (c.in_ok-one.ensures.parses.from _ _ _ (built _ _ _ _ _ _ _ _ _ (pushed q.exprs view_expr _ _ _ _ c.in_ok-push_few.ensures.items) (k))))) }; after = omega (arith, c.loop-values.invariant.after, c.loop-values.invariant.within, c.in_ok-after.ensures.goes_on.0, c.in_ok-after.ensures.goes_on.1, c.in_ok-one.ensures.goes_on.0, c.in_ok-one.ensures.goes_on.1); within = omega (arith, c.loop-values.invariant.after, c.loop-values.invariant.within, c.in_ok-after.ensures.goes_on.0, c.in_ok-after.ensures.goes_on.1, c.in_ok-one.ensures.goes_on.0, c.in_ok-one.ensures.goes_on.1) }
