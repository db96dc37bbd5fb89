use Rattle.std.proofs.Common.{◌≡◌, ℕ, ◌≤◌, length, drop, nat_eq}
use Rattle.std.specs.BTreeMap.{get}
use Rattle.std.specs.List.{position_from}
use Rattle.std.specs.Ordering.{nat_cmp}
use Rattle.half_trees.proofs.places.places_of.Given as goal

abbrev pub invariant-loop-at : goal.invariant-loop-at
invariant-loop-at l = record {
  within : l.at ≤ length l.numbers;
  places : (n : ℕ) → get nat_cmp l.places n ≡ position_from (nat_eq n) l.at (drop l.at l.numbers);
}

abbrev pub decreases-loop-at : goal.decreases-loop-at
decreases-loop-at l = l.at
