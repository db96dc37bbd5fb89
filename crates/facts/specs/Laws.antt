-- Ascending lists of the elements of a list.
use Rattle.std.specs.Prelude.{◌≡◌, List, Contains}
use Rattle.std.specs.Cmp.{IsTotalOrder}
use Rattle.std.specs.List.Sorted.{IsStrictlySortedBy}
use Rattle.std.specs.declared.cmp.Ordering.{Ordering}
use Rattle.std.specs.declared.cmp.Ordering.TheVariants.{Equal}

-- the second list is strictly ascending, has elements of the first alone, and for each of these one that ties
-- with it
pub record IsAscendingOf {K : Type 0} (R : K → K → Ordering) (xs ys : List K) : Type 0 where
  pub sorted : IsStrictlySortedBy R ys
  pub some : (y : K) → Contains ys y → Contains xs y
  pub all : (x : K) → Contains xs x → (y : K) × Contains ys y × (R x y ≡ Equal)

-- each list has such a one
abbrev pub ListsAscend : Type 0 → Type 0
ListsAscend K = (R : K → K → Ordering) → IsTotalOrder R → (xs : List K) → (ys : List K) × IsAscendingOf R xs ys
