-- A program has one list of each half, of the slave's globals and of seeds, whichever sides are found.
use Rattle.std.proofs.Common.{◌≡◌, ◌∙◌, ◌<◌, ℕ, refl, sym, arith, List}
use Rattle.std.proofs.lemmas.List.{map-id}
use Rattle.pt_base.specs.declared.ids.FnId.{FnId}
use Rattle.pt_base.specs.declared.ids.GlobalId.{GlobalId}
use Rattle.pt_base.specs.declared.slot.Slot.{Slot}
use Rattle.reach.specs.Sorted.{Lists}
use Rattle.typed_tree.specs.TypedTree.{TypedTree}
use Rattle.sides.specs.declared.halves.Sides.{Sides}
use Rattle.sides.specs.Placed.{AreSides}
use Rattle.sides.proofs.OneList.{one_list}

below_once : (m n : ℕ) → m < n → n < m → ⊥
below_once m n a b = omega arith

-- two lists of the members of one set are one list
pub same_lists : {X : Type 0} (number : X → ℕ) (Has : X → Type 0) (xs ys : List X) → Lists number Has xs → Lists number Has ys → xs ≡ ys
same_lists {X} number Has xs ys a b =
    sym (map-id xs)
    ∙ one_list (λ (x : X). x) (λ x y. number x < number y) (λ x y. below_once (number x) (number y)) xs ys a.ascending b.ascending
    (λ x h. (x, (b.same x).1 ((a.same x).0 h), refl)) (λ x h. (x, (a.same x).1 ((b.same x).0 h), refl))
    ∙ map-id ys

module _ (t : TypedTree) (s s' : Sides) (are : AreSides t s) (are' : AreSides t s') where
  pub same_slave : s.slave ≡ s'.slave
  same_slave = same_lists (λ (f : FnId). f.0) _ s.slave s'.slave are.slave are'.slave

  pub same_monitor : s.monitor ≡ s'.monitor
  same_monitor = same_lists (λ (f : FnId). f.0) _ s.monitor s'.monitor are.monitor are'.monitor

  pub same_owned : s.owned ≡ s'.owned
  same_owned = same_lists (λ (g : GlobalId). g.0) _ s.owned s'.owned are.owned are'.owned

  pub same_seeds : s.seeds ≡ s'.seeds
  same_seeds = same_lists (λ (x : Slot). x.0) _ s.seeds s'.seeds are.seeds are'.seeds
