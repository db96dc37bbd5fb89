use Rattle.std.proofs.Common.{◌≡◌, ◌<◌, ◌≤◌, ◌∷◌, [], ◌∙◌, Some, ap, sym, subst, map, option_map, arith}
use Rattle.std.proofs.lemmas.List.{map-append}
use Rattle.pt_core.specs.declared.expression.Expr.{size-Expr}
use Rattle.pt_core.specs.CodeTree.{ExprTree, view_expr}
use Rattle.pt_core.specs.LeftOperand.{Leads}
use Rattle.pt_core.proofs.LeftOperands.{AreWithin, seen, leads_push, leads_pop, within_push, within_pop}
use Rattle.half_trees.specs.Built as built
use Rattle.half_trees.specs.Views.{view_scope}
use Rattle.half_trees.proofs.expressions.+expressions.Goals as goal

pub expression-loop-left-preserved : goal.expression-loop-left-preserved
expression-loop-left-preserved t c =
    let pushed = ap (map seen) c.in_ok-push.ensures.items ∙ map-append seen c.loop-left.above.items (c.loop-left.at ∷ []) in
    let small : size-Expr c.loop-left.at.now ≤ size-Expr c.args.e.now = c.loop-left.invariant.small in
    let smaller : size-Expr c.in-Some.left.now < size-Expr c.loop-left.at.now = c.in-Some.ensures.smaller in
    record {
      leads = subst (λ xs. Leads (view_expr c.args.e.now) xs (view_expr c.in-Some.left.now)) (sym pushed) (leads_push _ _ _ _ c.loop-left.invariant.leads c.in-Some.ensures.is);
      within = subst (AreWithin (size-Expr c.args.e.now)) (sym c.in_ok-push.ensures.items) (within_push _ _ c.loop-left.at c.loop-left.invariant.within small);
      small = omega arith;
    }

pub expression-built_on-requires-in-Some-pop : goal.expression-built_on-requires-in-Some-pop
expression-built_on-requires-in-Some-pop t c =
    let popped = ap (map seen) c.in-Some-pop.ensures.items ∙ map-append seen c.pop.new.self.items (c.in-Some-pop.next ∷ []) in
    let was = c.loop-next.invariant.leads in
    let leads = leads_pop _ _ (view_expr c.in-Some-pop.next.now) _ (subst (λ xs. Leads (view_expr c.args.e.now) xs was.0) popped was.1) in
    let within = within_pop _ _ c.in-Some-pop.next (subst (AreWithin (size-Expr c.args.e.now)) c.in-Some-pop.ensures.items c.loop-next.invariant.within) in
    let small : size-Expr c.in-Some-pop.next.now ≤ size-Expr c.args.e.now = within.0 in
    (omega arith, ap Some was.2 ∙ sym (ap (option_map (built.expression (view_scope c.args.scope.now))) leads.0))

pub expression-loop-next-preserved : goal.expression-loop-next-preserved
expression-loop-next-preserved t c =
    let popped = ap (map seen) c.in-Some-pop.ensures.items ∙ map-append seen c.pop.new.self.items (c.in-Some-pop.next ∷ []) in
    let was = c.loop-next.invariant.leads in
    let leads = leads_pop _ _ (view_expr c.in-Some-pop.next.now) _ (subst (λ xs. Leads (view_expr c.args.e.now) xs was.0) popped was.1) in
    record {
      leads = (view_expr c.in-Some-pop.next.now, leads.1, c.in_ok-whole-2.ensures);
      within = (within_pop _ _ c.in-Some-pop.next (subst (AreWithin (size-Expr c.args.e.now)) c.in-Some-pop.ensures.items c.loop-next.invariant.within)).1;
    }
