use Rattle.std.proofs.Common.{◌<◌, ◌≤◌, ◌∷◌, [], ◌∙◌, ap, sym, subst, map, arith}
use Rattle.std.proofs.lemmas.List.{map-append}
use Rattle.pt_core.specs.declared.expression.Expr.{size-Expr}
use Rattle.pt_core.specs.CodeTree.{view_expr}
use Rattle.pt_core.specs.LeftOperand.{Leads}
use Rattle.pt_core.proofs.LeftOperands.{AreWithin, seen, leads_push, leads_pop, within_push, within_pop}
use Rattle.pt_core.proofs.expression.Expr.+copies.Goals as goal

pub copy-loop-left-preserved : goal.copy-loop-left-preserved
copy-loop-left-preserved t c =
    let pushed = ap (map seen) c.in_ok-push.ensures.items ∙ map-append seen c.loop-left.above.items (c.loop-left.at ∷ []) in
    let small : size-Expr c.loop-left.at.now ≤ size-Expr c.args.self.now = c.loop-left.invariant.small in
    let smaller : size-Expr c.in-Some.left.now < size-Expr c.loop-left.at.now = c.in-Some.ensures.smaller in
    record {
      leads = subst (λ xs. Leads (view_expr c.args.self.now) xs (view_expr c.in-Some.left.now)) (sym pushed) (leads_push _ _ _ _ c.loop-left.invariant.leads c.in-Some.ensures.is);
      within = subst (AreWithin (size-Expr c.args.self.now)) (sym c.in_ok-push.ensures.items) (within_push _ _ c.loop-left.at c.loop-left.invariant.within small);
      small = omega arith;
    }

pub copy-rebuilt-requires-in-Some-pop : goal.copy-rebuilt-requires-in-Some-pop
copy-rebuilt-requires-in-Some-pop t c =
    let popped = ap (map seen) c.in-Some-pop.ensures.items ∙ map-append seen c.pop.new.self.items (c.in-Some-pop.expr ∷ []) in
    let leads = leads_pop _ _ (view_expr c.in-Some-pop.expr.now) _ (subst (λ xs. Leads (view_expr c.args.self.now) xs (view_expr c.loop-expr.copied)) popped c.loop-expr.invariant.leads) in
    let within = within_pop _ _ c.in-Some-pop.expr (subst (AreWithin (size-Expr c.args.self.now)) c.in-Some-pop.ensures.items c.loop-expr.invariant.within) in
    let small : size-Expr c.in-Some-pop.expr.now ≤ size-Expr c.args.self.now = within.0 in
    (omega arith, sym leads.0)

pub copy-loop-expr-preserved : goal.copy-loop-expr-preserved
copy-loop-expr-preserved t c =
    let popped = ap (map seen) c.in-Some-pop.ensures.items ∙ map-append seen c.pop.new.self.items (c.in-Some-pop.expr ∷ []) in
    let leads = leads_pop _ _ (view_expr c.in-Some-pop.expr.now) _ (subst (λ xs. Leads (view_expr c.args.self.now) xs (view_expr c.loop-expr.copied)) popped c.loop-expr.invariant.leads) in
    record {
      leads = subst (Leads (view_expr c.args.self.now) (map seen c.pop.new.self.items)) (sym c.in_ok-copied-2.ensures) leads.1;
      within = (within_pop _ _ c.in-Some-pop.expr (subst (AreWithin (size-Expr c.args.self.now)) c.in-Some-pop.ensures.items c.loop-expr.invariant.within)).1;
    }
