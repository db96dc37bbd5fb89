-- Lists that begin with the same items, and repeated lists.
use Rattle.std.proofs.Common.{◌≡◌, ℕ, zero, suc, List, [], ◌∷◌, ◌++◌, ◌≤◌, ◌<◌, ◌-◌, ◌+◌, refl, sym, ap, ◌∙◌, length, take, append_assoc, append-nil, arith, slice_get, Some}
use Rattle.std.proofs.lemmas.List.{take-append-le}
use Rattle.typed_tree.specs.Cells.{repeated}

abbrev pub AreAlike : {A : Type 0} → ℕ → List A → List A → Type 0
AreAlike w xs ys = take w xs ≡ take w ys

module _ {A : Type 0} where
  -- what both begin with may be put before them
  pub alike_behind : (w : ℕ) (zs xs ys : List A) → AreAlike w xs ys → AreAlike w (zs ++ xs) (zs ++ ys)
  alike_behind w [] xs ys h = h
  alike_behind zero (z ∷ zs) xs ys h = refl
  alike_behind (suc w) (z ∷ zs) xs ys h = ap (λ l. z ∷ l) (alike_behind w zs xs ys (shorter w xs ys h))
    where
      shorter : (w : ℕ) (xs ys : List A) → AreAlike (suc w) xs ys → AreAlike w xs ys
      shorter zero xs ys h = refl
      shorter (suc w) [] [] h = refl
      shorter (suc w) [] (y ∷ ys) h = cc
      shorter (suc w) (x ∷ xs) [] h = cc
      shorter (suc w) (x ∷ xs) (y ∷ ys) h =
          let e : x ≡ y = cc in let t : take (suc w) xs ≡ take (suc w) ys = cc in
          let r : take w xs ≡ take w ys = shorter w xs ys t in cc

  -- and behind them
  pub alike_before : (w : ℕ) (xs ys zs : List A) → AreAlike w xs ys → AreAlike w (xs ++ zs) (ys ++ zs)
  alike_before zero xs ys zs h = refl
  alike_before (suc w) [] [] zs h = refl
  alike_before (suc w) [] (y ∷ ys) zs h = cc
  alike_before (suc w) (x ∷ xs) [] zs h = cc
  alike_before (suc w) (x ∷ xs) (y ∷ ys) zs h =
      let e : x ≡ y = cc in let t : take w xs ≡ take w ys = cc in
      let r : take w (xs ++ zs) ≡ take w (ys ++ zs) = alike_before w xs ys zs t in cc

  -- a list that is long enough already
  pub alike_full : (w : ℕ) (xs ys : List A) → w ≤ length xs → AreAlike w xs (xs ++ ys)
  alike_full w xs ys h = sym (take-append-le w xs ys h)

  pub alike_repeated : (w n : ℕ) (xs ys : List A) → AreAlike w xs ys → AreAlike w (repeated n xs) (repeated n ys)
  alike_repeated w zero xs ys h = refl
  alike_repeated w (suc n) xs ys h = alike_before w xs ys (repeated n xs) h ∙ alike_behind w ys (repeated n xs) (repeated n ys) (alike_repeated w n xs ys h)

  repeated_nothing : (n : ℕ) (zs : List A) → length zs ≡ 0 → repeated n zs ≡ []
  repeated_nothing zero zs h = refl
  repeated_nothing (suc n) [] h = repeated_nothing n [] h
  repeated_nothing (suc n) (z ∷ zs) h = absurd (omega (arith, h))

  -- nothing, so many times, adds nothing
  pub nothing_repeated : (w n : ℕ) (xs zs : List A) → length zs ≡ 0 → AreAlike w xs (xs ++ repeated n zs)
  nothing_repeated w n xs zs h = ap (take w) (sym (append-nil xs) ∙ ap (λ l. xs ++ l) (sym (repeated_nothing n zs h)))

  -- as many as are wanted are there
  pub full_repeated : (w : ℕ) (xs ys whole : List A) → w ≤ length xs → xs ++ ys ≡ whole → AreAlike w xs whole
  full_repeated w xs ys whole le e = alike_full w xs ys le ∙ ap (take w) e

  -- one more of several that add as many items each
  pub step_repeated : (xs zs whole : List A) (n i : ℕ) → i < n → xs ++ repeated (n - i) zs ≡ whole → (xs ++ zs) ++ repeated (n - (i + 1)) zs ≡ whole
  step_repeated xs zs whole n i lt e =
      let is : n - i ≡ suc (n - (i + 1)) = omega (arith, lt) in
      append_assoc xs zs (repeated (n - (i + 1)) zs) ∙ ap (λ m. xs ++ repeated m zs) (sym is) ∙ e

  -- all of them
  pub all_repeated : (w : ℕ) (xs zs whole : List A) (n i : ℕ) → n ≤ i → xs ++ repeated (n - i) zs ≡ whole → AreAlike w xs whole
  all_repeated w xs zs whole n i le e =
      let is : n - i ≡ zero = omega (arith, le) in
      ap (take w) (sym (append-nil xs) ∙ ap (λ m. xs ++ repeated m zs) (sym is) ∙ e)

  -- the elements may be known only as far as they are wanted
  pub repeated_alike : (w n : ℕ) (old new xs xs' none ys : List A) → AreAlike w new (old ++ repeated n xs) → AreAlike w xs' (none ++ ys) → xs ≡ xs' → none ≡ [] → AreAlike w new (old ++ repeated n ys)
  repeated_alike w n old new xs xs' none ys h same is e =
      h ∙ alike_behind w old (repeated n xs) (repeated n ys) (alike_repeated w n xs ys (ap (take w) is ∙ same ∙ ap (λ l. take w (l ++ ys)) e))

  -- the items at the places that are alike
  pub alike_at : (w k : ℕ) (xs ys : List A) → AreAlike w xs ys → k < w → slice_get xs k ≡ slice_get ys k
  alike_at zero k xs ys h lt = absurd (omega arith)
  alike_at (suc w) k [] [] h lt = refl
  alike_at (suc w) k [] (y ∷ ys) h lt = cc
  alike_at (suc w) k (x ∷ xs) [] h lt = cc
  alike_at (suc w) zero (x ∷ xs) (y ∷ ys) h lt = let e : x ≡ y = cc in ap Some e
  alike_at (suc w) (suc k) (x ∷ xs) (y ∷ ys) h lt = let t : take w xs ≡ take w ys = cc in alike_at w k xs ys t (omega arith)
