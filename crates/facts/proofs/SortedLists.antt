-- Each list has an ascending one with the same keys: its elements are put in their places one by one, and one
-- that ties with another is left out.
use Rattle.std.proofs.Common.{◌≡◌, ◌∙◌, ◌<◌, ◌⊎◌, ℕ, List, [], ◌∷◌, ap, refl, subst, inl, inr}
use Rattle.std.specs.Cmp.{IsTotalOrder}
use Rattle.std.specs.declared.cmp.Ordering.{Ordering}
use Rattle.std.specs.declared.cmp.Ordering.TheVariants.{Less, Equal, Greater}
use Rattle.std.specs.Ordering.{MatchOrdering, nat_cmp, ordering_reverse, ordering_then}
use Rattle.std.specs.List.{AllByRecursion, Contains}
use Rattle.std.specs.List.Sorted.{IsStrictlySortedBy}
use Rattle.std.proofs.lemmas.Cmp.{ranked, tied_itself}
use Rattle.facts.specs.Laws.{ListsAscend}
use Rattle.facts.proofs.Members.{contains_cases, contains_first, contains_later, contains_nothing}

-- ---- ties

pub both_tie : (a b : Ordering) → ordering_then a b ≡ Equal → (a ≡ Equal) × (b ≡ Equal)
both_tie Less b e = cc
both_tie Equal b e = (refl, e)
both_tie Greater b e = cc

pub numbers_tie : (m n : ℕ) → nat_cmp m n ≡ Equal → m ≡ n
numbers_tie m n e = subst (λ (o : Ordering). MatchOrdering o (m < n) (m ≡ n) (n < m)) e (ranked m n (nat_cmp m n) refl)

-- ---- an element in its place

module _ {K : Type 0} (R : K → K → Ordering) where
  -- x beside the first of a list, by how they compare; `more` has x in its place among the others
  abbrev placed : Ordering → K → K → List K → List K → List K
  placed Less x y ys more = x ∷ y ∷ ys
  placed Equal x y ys more = y ∷ ys
  placed Greater x y ys more = y ∷ more

  abbrev put : K → List K → List K
  put x [] = x ∷ []
  put x (y ∷ ys) = placed (R x y) x y ys (put x ys)

  abbrev pub ascending : List K → List K
  ascending [] = []
  ascending (x ∷ xs) = put x (ascending xs)

  each_put : (P : K → Type 0) (x : K) (ys : List K) → P x → AllByRecursion P ys → AllByRecursion P (put x ys)
  each_put P x [] p all = (p, tt)
  each_put P x (y ∷ ys) p all = go (R x y) (each_put P x ys p all.1)
    where
      go : (o : Ordering) → AllByRecursion P (put x ys) → AllByRecursion P (placed o x y ys (put x ys))
      go Less more = (p, all)
      go Equal more = all
      go Greater more = (all.0, more)

  -- what is in its place stays there
  stays : (x : K) (ys : List K) (z : K) → Contains ys z → Contains (put x ys) z
  stays x [] z h = absurd (contains_nothing z h)
  stays x (y ∷ ys) z h = go (R x y) (stays x ys z) (contains_cases y ys z h)
    where
      go : (o : Ordering) → (Contains ys z → Contains (put x ys) z) → (y ≡ z) ⊎ Contains ys z → Contains (placed o x y ys (put x ys)) z
      go Less rest c = contains_later x (y ∷ ys) z h
      go Equal rest c = h
      go Greater rest (inl e) = subst (λ (w : K). Contains (y ∷ put x ys) w) e (contains_first y (put x ys))
      go Greater rest (inr c) = contains_later y (put x ys) z (rest c)

  from_put : (x : K) (ys : List K) (z : K) → Contains (put x ys) z → (x ≡ z) ⊎ Contains ys z
  from_put x [] z h = contains_cases x [] z h
  from_put x (y ∷ ys) z h = go (R x y) (from_put x ys z) h
    where
      later : (x ≡ z) ⊎ Contains ys z → (x ≡ z) ⊎ Contains (y ∷ ys) z
      later (inl e) = inl e
      later (inr c) = inr (contains_later y ys z c)

      first : (Contains (put x ys) z → (x ≡ z) ⊎ Contains ys z) → (y ≡ z) ⊎ Contains (put x ys) z → (x ≡ z) ⊎ Contains (y ∷ ys) z
      first rest (inl e) = inr (subst (λ (w : K). Contains (y ∷ ys) w) e (contains_first y ys))
      first rest (inr c) = later (rest c)

      go : (o : Ordering) → (Contains (put x ys) z → (x ≡ z) ⊎ Contains ys z) → Contains (placed o x y ys (put x ys)) z → (x ≡ z) ⊎ Contains (y ∷ ys) z
      go Less rest h = contains_cases x (y ∷ ys) z h
      go Equal rest h = inr h
      go Greater rest h = first rest (contains_cases y (put x ys) z h)

  -- an ascending list has no other elements
  pub from_ascending : (xs : List K) (z : K) → Contains (ascending xs) z → Contains xs z
  from_ascending [] z h = h
  from_ascending (x ∷ xs) z h = go (from_ascending xs z) (from_put x (ascending xs) z h)
    where
      go : (Contains (ascending xs) z → Contains xs z) → (x ≡ z) ⊎ Contains (ascending xs) z → Contains (x ∷ xs) z
      go rest (inl e) = subst (λ (w : K). Contains (x ∷ xs) w) e (contains_first x xs)
      go rest (inr c) = contains_later x xs z (rest c)

module _ {K : Type 0} (R : K → K → Ordering) (total : IsTotalOrder R) where
  below_all : (x y : K) (ys : List K) → R x y ≡ Less → AllByRecursion (λ z. R y z ≡ Less) ys → AllByRecursion (λ z. R x z ≡ Less) ys
  below_all x y [] e all = tt
  below_all x y (z ∷ zs) e all = (total.trans x y z e all.0, below_all x y zs e all.1)

  turned : (x y : K) → R x y ≡ Greater → R y x ≡ Less
  turned x y e = total.antisymm y x ∙ ap ordering_reverse e

  placed_sorted : (o : Ordering) (x y : K) (ys : List K) → R x y ≡ o → IsStrictlySortedBy R (y ∷ ys) → IsStrictlySortedBy R (put R x ys) → IsStrictlySortedBy R (placed R o x y ys (put R x ys))
  unfolding IsStrictlySortedBy
  placed_sorted Less x y ys e h more = ((e, below_all x y ys e h.0), h)
  placed_sorted Equal x y ys e h more = h
  placed_sorted Greater x y ys e h more = (each_put R (λ z. R y z ≡ Less) x ys (turned x y e) h.0, more)

  put_sorted : (x : K) (ys : List K) → IsStrictlySortedBy R ys → IsStrictlySortedBy R (put R x ys)
  unfolding IsStrictlySortedBy
  put_sorted x [] h = (tt, tt)
  put_sorted x (y ∷ ys) h = placed_sorted (R x y) x y ys refl h (put_sorted x ys h.1)

  pub ascends : (xs : List K) → IsStrictlySortedBy R (ascending R xs)
  unfolding IsStrictlySortedBy
  ascends [] = tt
  ascends (x ∷ xs) = put_sorted x (ascending R xs) (ascends xs)

  in_put : (x : K) (ys : List K) → (z : K) × Contains (put R x ys) z × (R x z ≡ Equal)
  in_put x [] = (x, contains_first x [], tied_itself total x)
  in_put x (y ∷ ys) = go (R x y) refl (in_put x ys)
    where
      go : (o : Ordering) → R x y ≡ o → ((z : K) × Contains (put R x ys) z × (R x z ≡ Equal)) → (z : K) × Contains (placed R o x y ys (put R x ys)) z × (R x z ≡ Equal)
      go Less e rest = (x, contains_first x (y ∷ ys), tied_itself total x)
      go Equal e rest = (y, contains_first y ys, e)
      go Greater e rest = (rest.0, contains_later y (put R x ys) rest.0 rest.1, rest.2)

  -- it has one that ties with each element
  pub in_ascending : (xs : List K) (x : K) → Contains xs x → (z : K) × Contains (ascending R xs) z × (R x z ≡ Equal)
  in_ascending [] x h = absurd (contains_nothing x h)
  in_ascending (y ∷ ys) x h = go (in_ascending ys x) (contains_cases y ys x h)
    where
      go : (Contains ys x → (z : K) × Contains (ascending R ys) z × (R x z ≡ Equal)) → (y ≡ x) ⊎ Contains ys x → (z : K) × Contains (ascending R (y ∷ ys)) z × (R x z ≡ Equal)
      go rest (inl e) = let t = in_put y (ascending R ys) in (t.0, t.1, subst (λ (w : K). R w t.0 ≡ Equal) e t.2)
      go rest (inr c) = let r = rest c in (r.0, stays R y (ascending R ys) r.0 r.1, r.2)

pub lists_ascend : {K : Type 0} → ListsAscend K
lists_ascend R total xs = (ascending R xs, record { sorted = ascends R total xs; some = from_ascending R xs; all = in_ascending R total xs })
