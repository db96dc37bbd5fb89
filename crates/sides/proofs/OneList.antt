-- Two lists in one order whose members have the same keys have the same keys throughout.
use Rattle.std.proofs.Common.{◌≡◌, ◌∙◌, ◌<◌, ◌⊎◌, ℕ, zero, suc, refl, ap, sym, subst, arith, inl, inr, List, [], ◌∷◌, length, map, get_or}
use Rattle.std.specs.List.{All, AllPairs, Contains}
use Rattle.std.proofs.lemmas.List.Elements.{All-contains}
use Rattle.pt_base.proofs.Members.{contains_cases, contains_first, contains_later, contains_nothing}

module _ {X K : Type 0} (key : X → K) (R : K → K → Type 0) (one_way : (a b : K) → R a b → R b a → ⊥) where
  abbrev InOrder : List X → Type 0
  InOrder xs = AllPairs (λ a b. R (key a) (key b)) xs

  -- each key of the first list is one of the second's
  abbrev pub HasKeys : List X → List X → Type 0
  HasKeys xs ys = (x : X) → Contains xs x → (y : X) × Contains ys y × (key y ≡ key x)

  tail_of : (x : X) (xs : List X) → InOrder (x ∷ xs) → InOrder xs
  tail_of x xs up = λ i j d lt within. up (suc i) (suc j) d (omega arith) (omega arith)

  below : (x : X) (xs : List X) (z : X) → InOrder (x ∷ xs) → Contains xs z → R (key x) (key z)
  below x xs z up h = All-contains (λ (y : X). R (key x) (key y)) xs z (λ k d lt. up zero (suc k) d (omega arith) (omega arith)) h

  heads : (x : X) (xs : List X) (y : X) (ys : List X) → InOrder (x ∷ xs) → InOrder (y ∷ ys) →
      (y' : X) → (y ≡ y') ⊎ Contains ys y' → key y' ≡ key x → (x' : X) → (x ≡ x') ⊎ Contains xs x' → key x' ≡ key y → key x ≡ key y
  heads x xs y ys up up' y' (inl e) is x' there is' = sym is ∙ ap key (sym e)
  heads x xs y ys up up' y' (inr i) is x' (inl e) is' = ap key e ∙ is'
  heads x xs y ys up up' y' (inr i) is x' (inr j) is' =
      absurd (one_way (key x) (key y) (subst (λ k. R (key x) k) is' (below x xs x' up j)) (subst (λ k. R (key y) k) is (below y ys y' up' i)))

  later : (x : X) (xs : List X) (y : X) (ys : List X) (z : X) → InOrder (x ∷ xs) → key x ≡ key y → Contains xs z →
      (y' : X) → (y ≡ y') ⊎ Contains ys y' → key y' ≡ key z → (w : X) × Contains ys w × (key w ≡ key z)
  later x xs y ys z up e h y' (inl s) is =
      let itself : R (key x) (key x) = subst (λ k. R (key x) k) (sym is ∙ ap key (sym s) ∙ sym e) (below x xs z up h) in
      absurd (one_way (key x) (key x) itself itself)
  later x xs y ys z up e h y' (inr i) is = (y', i, is)

  pub one_list : (xs ys : List X) → InOrder xs → InOrder ys → HasKeys xs ys → HasKeys ys xs → map key xs ≡ map key ys
  one_list [] [] up up' there back = refl
  one_list [] (y ∷ ys) up up' there back = absurd (let h = back y (contains_first y ys) in contains_nothing h.0 h.1)
  one_list (x ∷ xs) [] up up' there back = absurd (let h = there x (contains_first x xs) in contains_nothing h.0 h.1)
  one_list (x ∷ xs) (y ∷ ys) up up' there back =
      let h = there x (contains_first x xs) in
      let g = back y (contains_first y ys) in
      let e : key x ≡ key y = heads x xs y ys up up' h.0 (contains_cases y ys h.0 h.1) h.2 g.0 (contains_cases x xs g.0 g.1) g.2 in
      let rest : map key xs ≡ map key ys = one_list xs ys (tail_of x xs up) (tail_of y ys up')
      (λ z i. let p = there z (contains_later x xs z i) in later x xs y ys z up e i p.0 (contains_cases y ys p.0 p.1) p.2)
      (λ z i. let p = back z (contains_later y ys z i) in later y ys x xs z up' (sym e) i p.0 (contains_cases x xs p.0 p.1) p.2) in
      λ i. e i ∷ rest i
