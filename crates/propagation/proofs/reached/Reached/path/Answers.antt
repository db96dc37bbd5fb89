use Rattle.std.proofs.Common.{◌≡◌, ◌<◌, ◌∙◌, ◌++◌, List, ℕ, length, reverse, sym, subst, arith, Some}
use Rattle.std.proofs.lemmas.List.{append-nil}
use Rattle.propagation.specs.Reached.{by_at}
use Rattle.propagation.specs.Shown.{path_of}
use Rattle.propagation.proofs.PathLemmas.{path_step, path_end}
use Rattle.propagation.proofs.VisitLemmas.{by_read}
use Rattle.propagation.proofs.reached.Reached.path.Goals as goal

pub loop-step-init : goal.loop-step-init
loop-step-init c = record {
  within = c.requires;
  path = subst (λ (xs : List ℕ). path_of c.args.self.now.order.items c.args.place ++ reverse xs ≡ path_of c.args.self.now.order.items c.args.place) (sym c.new-path.ensures.items) (append-nil (path_of c.args.self.now.order.items c.args.place));
}

pub loop-step-smaller : goal.loop-step-smaller
loop-step-smaller c = c.args.self.now.earlier.parents c.loop-step.at c.loop-step.invariant.within c.in-Some.step (sym (by_read _ _ _ c.loop-step.invariant.within c.index.ensures) ∙ c.in-Some.is)

pub loop-step-preserved : goal.loop-step-preserved
loop-step-preserved c =
    let is : by_at c.args.self.now.order.items c.loop-step.at ≡ Some c.in-Some.step = sym (by_read _ _ _ c.loop-step.invariant.within c.index.ensures) ∙ c.in-Some.is in
    let lt : c.in-Some.step.parent < c.loop-step.at = c.args.self.now.earlier.parents c.loop-step.at c.loop-step.invariant.within c.in-Some.step is in
    let inside : c.loop-step.at < length c.args.self.now.order.items = c.loop-step.invariant.within in
    record {
      within = omega arith;
      path = path_step c.args.self.now.places.items _ _ _ _ _ _ c.args.self.now.earlier inside is c.in_ok-push.ensures.items c.loop-step.invariant.path;
    }

pub returns : goal.returns
returns c = path_end c.args.self.now.order.items c.loop-step.at c.loop-step.path.items _ _ (sym (by_read _ _ _ c.loop-step.invariant.within c.index.ensures) ∙ c.in_default.is) c.reverse.ensures.items c.loop-step.invariant.path
