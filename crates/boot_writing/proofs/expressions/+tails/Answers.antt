use Rattle.std.proofs.Common.{◌<◌, ◌≤◌, ◌∷◌, [], ◌∙◌, ap, sym, subst, map, arith}
use Rattle.std.proofs.lemmas.List.{map-append}
use Rattle.pt_core.specs.declared.expression.Expr.{size-Expr}
use Rattle.pt_core.specs.CodeTree.{view_expr}
use Rattle.pt_core.proofs.LeftOperands.{AreWithin, seen, within_push, within_pop}
use Rattle.boot_writing.proofs.Chains.{Down, Up, goes_down, goes_up}
use Rattle.boot_writing.proofs.expressions.+tails.Goals as goal

pub put_expr-loop-left-preserved : goal.put_expr-loop-left-preserved
put_expr-loop-left-preserved t c =
    let pushed = ap (map seen) c.in_ok-push.ensures.items ∙ map-append seen c.loop-left.above.items (c.loop-left.at ∷ []) in
    let small : size-Expr c.loop-left.at.now ≤ size-Expr c.args.whole.now = c.loop-left.invariant.small in
    let smaller : size-Expr c.in-Some.left.now < size-Expr c.loop-left.at.now = c.in-Some.ensures.smaller in
    record {
      down =
          subst (λ xs. Down xs (view_expr c.args.whole.now) (view_expr c.in-Some.left.now) c.args.out.now.items c.put_head.new.out.items) (sym pushed)
          (goes_down _ _ _ _ _ _ _ c.in-Some.ensures.is c.in_ok-put_head.ensures.bytes c.in_ok-put_head.ensures.fits c.loop-left.invariant.down);
      within = subst (AreWithin (size-Expr c.args.whole.now)) (sym c.in_ok-push.ensures.items) (within_push _ _ c.loop-left.at c.loop-left.invariant.within small);
      small = omega arith;
    }

pub put_expr-put_tail-requires-in-Some-pop : goal.put_expr-put_tail-requires-in-Some-pop
put_expr-put_tail-requires-in-Some-pop t c =
    let within = within_pop _ _ c.in-Some-pop.expr (subst (AreWithin (size-Expr c.args.whole.now)) c.in-Some-pop.ensures.items c.loop-expr.invariant.within) in
    let small : size-Expr c.in-Some-pop.expr.now ≤ size-Expr c.args.whole.now = within.0 in
    omega arith

pub put_expr-loop-expr-preserved : goal.put_expr-loop-expr-preserved
put_expr-loop-expr-preserved t c =
    let popped = ap (map seen) c.in-Some-pop.ensures.items ∙ map-append seen c.pop.new.self.items (c.in-Some-pop.expr ∷ []) in
    record {
      up =
          goes_up _ _ (view_expr c.in-Some-pop.expr.now) _ _ _ c.in_ok-put_tail-2.ensures.bytes c.in_ok-put_tail-2.ensures.fits
          (subst (λ xs. Up xs (view_expr c.args.whole.now) c.args.out.now.items c.loop-expr.out.items) popped c.loop-expr.invariant.up);
      within = (within_pop _ _ c.in-Some-pop.expr (subst (AreWithin (size-Expr c.args.whole.now)) c.in-Some-pop.ensures.items c.loop-expr.invariant.within)).1;
    }
