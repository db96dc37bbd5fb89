-- Names of a text differ where the tree's names do.
use Rattle.std.proofs.Common.{◌≡◌, ◌∙◌, ◌<◌, ◌≤◌, ◌^◌, sym, ap, refl, ℕ, suc, Bool, true, false, List, [], ◌∷◌, map, arith, ◌+◌, cond, not, length, Option, Some}
use Rattle.std.specs.Prelude.{IsTrue, ◌||◌, slice_get, option_map}
use Rattle.std.specs.List.{list_any, filter, range_with_len}
use Rattle.std.specs.Str.{bytes_eq}
use Rattle.std.proofs.lemmas.Bool.{or_parts}
use Rattle.pt_base.proofs.Booleans.{both_hold, both_hold_first, both_hold_second, from_not_true}
use Rattle.pt_base.proofs.Lists.{bytes_eq_same, bytes_eq_self}
use Rattle.typed_tree.specs.WellFormed.{are_distinct}

pub name_other : (m n : List ℕ) → bytes_eq m n ≡ false → bytes_eq n m ≡ false
name_other m n h = go (bytes_eq n m) refl
  where
    go : (b : Bool) → bytes_eq n m ≡ b → b ≡ false
    go false e = refl
    go true e = let same = ap (λ x. bytes_eq x n) (sym (bytes_eq_same n m e)) ∙ bytes_eq_self n in cc

-- ---- names that are made of others and of their numbers

-- what these names become, the first of them as number k
abbrev pub made_from : (ℕ → List ℕ → List ℕ) → ℕ → List (List ℕ) → List (List ℕ)
made_from made k [] = []
made_from made k (n ∷ ns) = made k n ∷ made_from made (suc k) ns

-- different names become different ones
abbrev pub Apart : (ℕ → List ℕ → List ℕ) → Type 0
Apart made = (j k : ℕ) (a b : List ℕ) → j < k → k < 2 ^ 64 → bytes_eq a b ≡ false → bytes_eq (made j a) (made k b) ≡ false

module _ (made : ℕ → List ℕ → List ℕ) (apart : Apart made) where
  none_made : (j k : ℕ) (a : List ℕ) (ns : List (List ℕ)) → j < k → k + length ns ≤ 2 ^ 64 → list_any (bytes_eq a) ns ≡ false → list_any (bytes_eq (made j a)) (made_from made k ns) ≡ false
  none_made j k a [] less small h = refl
  none_made j k a (n ∷ ns) less small h =
      let parts = or_parts (bytes_eq a n) (list_any (bytes_eq a) ns) h in
      ap (λ b. b || list_any (bytes_eq (made j a)) (made_from made (suc k) ns)) (apart j k a n less (omega (arith, small)) parts.0)
      ∙ none_made j (suc k) a ns (omega (arith, less)) (omega (arith, small)) parts.1

  pub made_distinct : (k : ℕ) (ns : List (List ℕ)) → k + length ns ≤ 2 ^ 64 → IsTrue (are_distinct ns) → IsTrue (are_distinct (made_from made k ns))
  made_distinct k [] small h = refl
  made_distinct k (n ∷ ns) small h =
      let first : list_any (bytes_eq n) ns ≡ false = from_not_true (list_any (bytes_eq n) ns) (both_hold_first (not (list_any (bytes_eq n) ns)) (are_distinct ns) h) in
      both_hold (not (list_any (bytes_eq (made k n)) (made_from made (suc k) ns))) (are_distinct (made_from made (suc k) ns))
      (ap not (none_made k (suc k) n ns (omega arith) (omega (arith, small)) first))
      (made_distinct (suc k) ns (omega (arith, small)) (both_hold_second (not (list_any (bytes_eq n) ns)) (are_distinct ns) h))

-- two bytes before both change nothing
pub before_both : (p q : ℕ) (a b : List ℕ) → bytes_eq (p ∷ q ∷ a) (p ∷ q ∷ b) ≡ bytes_eq a b
before_both p q a b = go (bytes_eq a b) refl
  where
    go : (x : Bool) → bytes_eq a b ≡ x → bytes_eq (p ∷ q ∷ a) (p ∷ q ∷ b) ≡ x
    go true e = ap (λ y. bytes_eq (p ∷ q ∷ a) (p ∷ q ∷ y)) (sym (bytes_eq_same a b e)) ∙ bytes_eq_self (p ∷ q ∷ a)
    go false e = other (bytes_eq (p ∷ q ∷ a) (p ∷ q ∷ b)) refl
      where
        tail : List ℕ → List ℕ
        tail [] = []
        tail (x ∷ []) = []
        tail (x ∷ y ∷ xs) = xs

        other : (y : Bool) → bytes_eq (p ∷ q ∷ a) (p ∷ q ∷ b) ≡ y → y ≡ false
        other false i = refl
        other true i = let whole = bytes_eq_same (p ∷ q ∷ a) (p ∷ q ∷ b) i in let same : a ≡ b = cc in let self = ap (bytes_eq a) same in let one = bytes_eq_self a in let joined = ap (λ y. bytes_eq a y) (sym same) ∙ bytes_eq_self a in cc

-- ---- names of some of a list

module _ {X : Type 0} (name : X → List ℕ) (has : X → Bool) where
  none_chosen : (a : List ℕ) (xs : List X) → list_any (bytes_eq a) (map name xs) ≡ false → list_any (bytes_eq a) (map name (filter has xs)) ≡ false
  none_chosen a [] h = refl
  none_chosen a (x ∷ xs) h = go (none_chosen a xs) (has x) (bytes_eq a (name x)) refl h
    where
      go : (list_any (bytes_eq a) (map name xs) ≡ false → list_any (bytes_eq a) (map name (filter has xs)) ≡ false) → (b c : Bool) → bytes_eq a (name x) ≡ c → (c || list_any (bytes_eq a) (map name xs)) ≡ false
          → list_any (bytes_eq a) (map name (cond b (x ∷ filter has xs) (filter has xs))) ≡ false
      go again b true e h = cc
      go again true false e h = ap (λ d. d || list_any (bytes_eq a) (map name (filter has xs))) e ∙ again h
      go again false false e h = again h

  pub chosen_distinct : (xs : List X) → IsTrue (are_distinct (map name xs)) → IsTrue (are_distinct (map name (filter has xs)))
  chosen_distinct [] h = refl
  chosen_distinct (x ∷ xs) h = go (chosen_distinct xs (both_hold_second (not (list_any (bytes_eq (name x)) (map name xs))) (are_distinct (map name xs)) h)) (has x)
    where
      first : list_any (bytes_eq (name x)) (map name xs) ≡ false
      first = from_not_true (list_any (bytes_eq (name x)) (map name xs)) (both_hold_first (not (list_any (bytes_eq (name x)) (map name xs))) (are_distinct (map name xs)) h)

      go : IsTrue (are_distinct (map name (filter has xs))) → (b : Bool) → IsTrue (are_distinct (map name (cond b (x ∷ filter has xs) (filter has xs))))
      go parts true = both_hold (not (list_any (bytes_eq (name x)) (map name (filter has xs)))) (are_distinct (map name (filter has xs))) (ap not (none_chosen (name x) xs first)) parts
      go parts false = parts

-- ---- names by place

-- what is made of each at its place in the whole list is made of all from the first on
pub by_place : {X : Type 0} (whole : List X) (name : X → List ℕ) (made : ℕ → Option (List ℕ) → List ℕ) (xs : List X) (k : ℕ) → ((j : ℕ) → slice_get whole (j + k) ≡ slice_get xs j)
    → map (λ n. made n (option_map name (slice_get whole n))) (range_with_len k (length xs)) ≡ made_from (λ n a. made n (Some a)) k (map name xs)
by_place whole name made [] k at = refl
by_place whole name made (x ∷ xs) k at =
    let here : k ≡ 0 + k = omega arith in
    let next : k + 1 ≡ suc k = omega arith in
    ap (λ m. made k (option_map name (slice_get whole k)) ∷ map (λ n. made n (option_map name (slice_get whole n))) (range_with_len m (length xs))) next
    ∙ ap (λ o. made k (option_map name o) ∷ map (λ n. made n (option_map name (slice_get whole n))) (range_with_len (suc k) (length xs))) (ap (slice_get whole) here ∙ at 0)
    ∙ ap (λ ys. made k (Some (name x)) ∷ ys) (by_place whole name made xs (suc k) (λ j. let e : j + suc k ≡ suc j + k = omega arith in ap (slice_get whole) e ∙ at (suc j)))
