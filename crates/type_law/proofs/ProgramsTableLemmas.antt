-- What a name means in a table, and in one with a name more.
use Rattle.std.proofs.Common.{◌≡◌, ◌<◌, ◌+◌, ◌++◌, ◌∙◌, sym, ap, refl, ℕ, zero, suc, Bool, true, false, List, [], ◌∷◌, length, arith, cond, nat_lt, not, Option, Some, None, if◌then◌else◌, is_none}
use Rattle.std.specs.List.{prefix_len}
use Rattle.std.specs.Str.{bytes_eq}
use Rattle.std.proofs.lemmas.Bool.Decides.{nat_tests}
use Rattle.check_declarations.specs.NameTables.{Named, number_of, value_at, is_new, with_name}

module _ {X : Type 0} where
  abbrev pub value_of : Named X → Option ℕ → Option X
  value_of t None = None
  value_of t (Some k) = value_at t k

  -- the value of a name
  abbrev pub sought : Named X → List ℕ → Option X
  sought [] n = None
  sought (e ∷ t) n = if bytes_eq n e.0 then Some e.1 else sought t n

  abbrev rest_of : Named X → List ℕ → ℕ
  rest_of t n = prefix_len (λ e. not (bytes_eq n e.0)) t

  shifted : (e : List ℕ × X) (t : Named X) (r : ℕ) → value_of (e ∷ t) (cond (nat_lt (1 + r) (suc (length t))) (Some (1 + r)) None) ≡ value_of t (cond (nat_lt r (length t)) (Some r) None)
  shifted e t r = go (nat_lt r (length t)) (nat_lt (1 + r) (suc (length t))) (grind (arith, nat_tests))
    where
      go : (a b : Bool) → b ≡ a → value_of (e ∷ t) (cond b (Some (1 + r)) None) ≡ value_of t (cond a (Some r) None)
      go true true h = let same : 1 + r ≡ suc r = omega arith in ap (λ k. value_at (e ∷ t) k) same
      go false false h = refl
      go true false h = cc
      go false true h = cc

  pub found : (t : Named X) (n : List ℕ) → value_of t (number_of t n) ≡ sought t n
  found [] n = refl
  found (e ∷ t) n = go (bytes_eq n e.0) refl (found t n)
    where
      at_first : (b : Bool) → b ≡ true → value_of (e ∷ t) (cond b (Some 0) None) ≡ Some e.1
      at_first true h = refl
      at_first false h = cc

      go : (b : Bool) → bytes_eq n e.0 ≡ b → value_of t (number_of t n) ≡ sought t n → value_of (e ∷ t) (cond (nat_lt (cond (not b) (1 + rest_of t n) 0) (suc (length t))) (Some (cond (not b) (1 + rest_of t n) 0)) None) ≡ (if b then Some e.1 else sought t n)
      go true is again = at_first (nat_lt 0 (suc (length t))) (grind (arith, nat_tests))
      go false is again = shifted e t (rest_of t n) ∙ again

  -- a number that a search gives is one of the table
  pub number_below : (t : Named X) (n : List ℕ) (k : ℕ) → number_of t n ≡ Some k → k < length t
  number_below t n k h = go (nat_lt (rest_of t n) (length t)) refl h
    where
      go : (b : Bool) → nat_lt (rest_of t n) (length t) ≡ b → cond b (Some (rest_of t n)) None ≡ Some k → k < length t
      go true is h = let same : rest_of t n ≡ k = cc in grind (arith, nat_tests)
      go false is h = cc

  value_there : (t : Named X) (k : ℕ) → k < length t → value_at t k ≡ None → ⊥
  value_there [] k h e = omega arith
  value_there (x ∷ t) zero h e = cc
  value_there (x ∷ t) (suc k) h e = value_there t k (omega arith) e

  -- a name without a value is new
  pub new_where_none : (t : Named X) (n : List ℕ) → sought t n ≡ None → is_new t n ≡ true
  new_where_none t n h = go (number_of t n) refl
    where
      go : (o : Option ℕ) → number_of t n ≡ o → is_none o ≡ true
      go None is = refl
      go (Some k) is = absurd (value_there t k (number_below t n k is) (ap (value_of t) (sym is) ∙ found t n ∙ h))

  pub none_where_new : (t : Named X) (n : List ℕ) → is_new t n ≡ true → sought t n ≡ None
  none_where_new t n h = go (number_of t n) refl h
    where
      go : (o : Option ℕ) → number_of t n ≡ o → is_none o ≡ true → sought t n ≡ None
      go None is h = sym (found t n) ∙ ap (value_of t) is
      go (Some k) is h = cc

  pub sought_pushed : (t : Named X) (n m : List ℕ) (x : X) → sought t n ≡ None → sought (t ++ (m, x) ∷ []) n ≡ (if bytes_eq n m then Some x else None)
  sought_pushed [] n m x h = refl
  sought_pushed (e ∷ t) n m x h = go (bytes_eq n e.0) h (sought_pushed t n m x)
    where
      go : (b : Bool) → (if b then Some e.1 else sought t n) ≡ None → (sought t n ≡ None → sought (t ++ (m, x) ∷ []) n ≡ (if bytes_eq n m then Some x else None)) → (if b then Some e.1 else sought (t ++ (m, x) ∷ []) n) ≡ (if bytes_eq n m then Some x else None)
      go true h again = cc
      go false h again = again h

  pub sought_kept : (t : Named X) (n m : List ℕ) (x y : X) → sought t n ≡ Some y → sought (t ++ (m, x) ∷ []) n ≡ Some y
  sought_kept [] n m x y h = cc
  sought_kept (e ∷ t) n m x y h = go (bytes_eq n e.0) h (sought_kept t n m x y)
    where
      go : (b : Bool) → (if b then Some e.1 else sought t n) ≡ Some y → (sought t n ≡ Some y → sought (t ++ (m, x) ∷ []) n ≡ Some y) → (if b then Some e.1 else sought (t ++ (m, x) ∷ []) n) ≡ Some y
      go true h again = h
      go false h again = again h

  -- a table with a new name at its end
  pub pushed : (t : Named X) (m : List ℕ) (x : X) → is_new t m ≡ true → with_name t m x ≡ t ++ (m, x) ∷ []
  pushed t m x h = ap (λ b. if b then t ++ (m, x) ∷ [] else t) h
