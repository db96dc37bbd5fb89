use Rattle.std.proofs.Common.{◌≡◌, ◌+◌, ◌-◌, ◌∙◌, ap, arith, cond, refl, Some}
use Rattle.std.specs.BTreeMap.{get}
use Rattle.std.specs.Ordering.{nat_cmp}
use Rattle.half_trees.proofs.PlaceLemmas.{same_test, step}
use Rattle.half_trees.proofs.places.places_of.Goals as goal

pub loop-at-preserved : goal.loop-at-preserved
loop-at-preserved c =
    let next : c.loop-at.at ≡ c.loop-at.at - 1 + 1 = omega arith in
    record {
      within = omega arith;
      places = λ n. step c.args.numbers.now c.loop-at.at (c.loop-at.at - 1) _ n (get nat_cmp c.loop-at.places n) _ next (omega arith) refl
          (c.loop-at.invariant.places n) (c.in_ok-insert.ensures.updates.0 n ∙ ap (λ t. cond t (Some (c.loop-at.at - 1)) (get nat_cmp c.loop-at.places n)) (same_test _ n));
    }
