-- What a search in order finds stands in the list.
use Rattle.std.proofs.Common.{◌≡◌, ◌<◌, ◌≤◌, ℕ, refl, ap, sym, subst, arith, Bool, true, false, List, Result, Ok, Err, length, get_or, leb, Ordering, Equal}
use Rattle.std.specs.Prelude.{is_ok}
use Rattle.std.specs.Cmp.{IsTotalOrder}
use Rattle.std.specs.List.{Contains, list_any}
use Rattle.std.specs.List.Sorted.{IsBinarySearchResult, IsSearchInRange, IsSorted}
use Rattle.std.specs.Ordering.{is_eq}
use Rattle.std.proofs.lemmas.Bool.Decides.{nat_tests}
use Rattle.std.proofs.lemmas.Cmp.{tied_itself}
use Rattle.std.proofs.lemmas.List.Folds.{Any-from_list_any, list_any_at, list_any_none}
use Rattle.std.proofs.lemmas.List.Sorted.{searchable_from_sorted}
use Rattle.pt_base.proofs.Orders.{is_eq_equal}

module _ {X : Type 0} {R : X → X → Ordering} (total : IsTotalOrder R) where
  -- what `binary_search` answers
  pub found_is : (xs : List X) (x : X) (r : Result ℕ ℕ) → IsSorted R xs → IsSearchInRange r (length xs) → IsBinarySearchResult (λ y. R y x) xs r →
      is_ok r ≡ list_any (λ y. is_eq (R y x)) xs
  found_is xs x (Ok i) up within is = sym (list_any_at (λ y. is_eq (R y x)) xs i x within (ap is_eq (is x)))
  found_is xs x (Err i) up within is = sym (list_any_none (λ y. is_eq (R y x)) xs missed)
    where
      missed : (k : ℕ) (d : X) → k < length xs → is_eq (R (get_or xs k d) x) ≡ false
      missed k d lt = go (leb i k) refl
        where
          go : (b : Bool) → leb i k ≡ b → is_eq (R (get_or xs k d) x) ≡ false
          go true e = let le : i ≤ k = grind (arith, nat_tests) in ap is_eq ((is (searchable_from_sorted total (λ y. y) xs x up)).1 k d le lt)
          go false e =
              let below : k < i = grind (arith, nat_tests) in
              let first : 0 ≤ k = omega arith in
              ap is_eq ((is (searchable_from_sorted total (λ y. y) xs x up)).0 k d first below)

  -- the same by an order that is this one
  pub found_by : (C : X → X → Ordering) → C ≡ R → (xs : List X) (x : X) (r : Result ℕ ℕ) → IsSorted R xs → IsSearchInRange r (length xs) → IsBinarySearchResult (λ y. C y x) xs r →
      is_ok r ≡ list_any (λ y. is_eq (R y x)) xs
  found_by C same xs x r up within is = found_is xs x r up within (subst (λ (D : X → X → Ordering). IsBinarySearchResult (λ y. D y x) xs r) same is)

  module _ (tied : (x y : X) → R x y ≡ Equal → x ≡ y) where
    pub stands : (xs : List X) (x : X) → list_any (λ y. is_eq (R y x)) xs ≡ true → Contains xs x
    stands xs x h =
        let a = Any-from_list_any (λ y. is_eq (R y x)) xs h in
        let same : a.1 ≡ x = tied a.1 x (is_eq_equal (R a.1 x) a.4) in
        subst (λ (z : X). Contains xs z) same (a.0, a.2, a.3)

  pub stood : (xs : List X) (x : X) → Contains xs x → list_any (λ y. is_eq (R y x)) xs ≡ true
  stood xs x h =
      list_any_at (λ y. is_eq (R y x)) xs h.0 x h.1 (subst (λ (z : X). is_eq (R z x) ≡ true) (sym h.2) (ap is_eq (tied_itself total x)))
