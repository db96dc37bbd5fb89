-- Numbers, each once, as code finds them: those that are kept, and of the others the new ones.
use Rattle.std.proofs.Common.{◌≡◌, ◌∙◌, ◌<◌, ◌+◌, ℕ, suc, refl, ap, sym, arith, Bool, true, false, cond, List, [], ◌∷◌, ◌++◌, append_assoc, length, drop, drop-cons, add-one, get_or, nat_eq}
use Rattle.std.specs.Prelude.{not, ◌&&◌, ◌||◌}
use Rattle.std.specs.List.{filter, list_any}
use Rattle.flow_edges.specs.Distinct.{with_new}
use Rattle.flow_edges.specs.Moves.{first_of_each}

-- it is none of these
abbrev pub is_new : List ℕ → ℕ → Bool
is_new kept y = not (list_any (nat_eq y) kept)

-- those of a list that are none of these, each once
abbrev pub fresh : List ℕ → List ℕ → List ℕ
fresh kept xs = filter (is_new kept) (first_of_each xs)

first_kept : (p : ℕ → Bool) (x : ℕ) (xs : List ℕ) (b : Bool) → p x ≡ b → filter p (x ∷ xs) ≡ cond b (x ∷ filter p xs) (filter p xs)
first_kept p x xs b e = ap (λ c. cond c (x ∷ filter p xs) (filter p xs)) e

filter_twice : (p q r : ℕ → Bool) → ((y : ℕ) → r y ≡ (q y && p y)) → (xs : List ℕ) → filter p (filter q xs) ≡ filter r xs
filter_twice p q r same [] = refl
filter_twice p q r same (x ∷ xs) = go (q x) refl (p x) refl (filter_twice p q r same xs)
  where
    go : (b : Bool) → q x ≡ b → (c : Bool) → p x ≡ c → filter p (filter q xs) ≡ filter r xs →
        filter p (cond b (x ∷ filter q xs) (filter q xs)) ≡ filter r (x ∷ xs)
    go true eq true ep rest =
        let is : r x ≡ true = same x ∙ ap (λ b. b && p x) eq ∙ ep in
        first_kept p x (filter q xs) true ep ∙ ap (λ ys. x ∷ ys) rest ∙ sym (first_kept r x xs true is)
    go true eq false ep rest =
        let is : r x ≡ false = same x ∙ ap (λ b. b && p x) eq ∙ ep in
        first_kept p x (filter q xs) false ep ∙ rest ∙ sym (first_kept r x xs false is)
    go false eq c ep rest =
        let is : r x ≡ false = same x ∙ ap (λ b. b && p x) eq in
        rest ∙ sym (first_kept r x xs false is)

any_append : (p : ℕ → Bool) (xs ys : List ℕ) → list_any p (xs ++ ys) ≡ (list_any p xs || list_any p ys)
any_append p [] ys = refl
any_append p (x ∷ xs) ys = go (p x) (any_append p xs ys)
  where
    go : (b : Bool) → list_any p (xs ++ ys) ≡ (list_any p xs || list_any p ys) → (b || list_any p (xs ++ ys)) ≡ ((b || list_any p xs) || list_any p ys)
    go true rest = refl
    go false rest = rest

-- all are new where nothing is kept
pub all_fresh : (xs : List ℕ) → fresh [] xs ≡ first_of_each xs
all_fresh xs = whole (first_of_each xs)
  where
    whole : (ys : List ℕ) → filter (is_new []) ys ≡ ys
    whole [] = refl
    whole (y ∷ ys) = ap (λ zs. y ∷ zs) (whole ys)

-- one that is kept already
pub fresh_old : (kept : List ℕ) (x : ℕ) (xs : List ℕ) → list_any (nat_eq x) kept ≡ true → fresh kept (x ∷ xs) ≡ fresh kept xs
fresh_old kept x xs h =
    first_kept (is_new kept) x (filter (λ y. not (nat_eq y x)) (first_of_each xs)) false (ap not h)
    ∙ filter_twice (is_new kept) (λ y. not (nat_eq y x)) (is_new kept) (λ y. same y (nat_eq y x) refl) (first_of_each xs)
  where
    same : (y : ℕ) (b : Bool) → nat_eq y x ≡ b → is_new kept y ≡ (not b && is_new kept y)
    same y false e = refl
    same y true e = let is : y ≡ x = grind (arith, e) in ap not (ap (λ z. list_any (nat_eq z) kept) is ∙ h)

-- one that isn't
pub fresh_new : (kept : List ℕ) (x : ℕ) (xs : List ℕ) → list_any (nat_eq x) kept ≡ false → fresh kept (x ∷ xs) ≡ x ∷ fresh (kept ++ x ∷ []) xs
fresh_new kept x xs h =
    first_kept (is_new kept) x (filter (λ y. not (nat_eq y x)) (first_of_each xs)) true (ap not h)
    ∙ ap (λ ys. x ∷ ys) (filter_twice (is_new kept) (λ y. not (nat_eq y x)) (is_new (kept ++ x ∷ [])) same (first_of_each xs))
  where
    parts : (a b : Bool) → not (a || (b || false)) ≡ (not b && not a)
    parts true true = refl
    parts true false = refl
    parts false true = refl
    parts false false = refl

    same : (y : ℕ) → is_new (kept ++ x ∷ []) y ≡ (not (nat_eq y x) && is_new kept y)
    same y = ap not (any_append (nat_eq y) kept (x ∷ [])) ∙ parts (list_any (nat_eq y) kept) (nat_eq y x)

-- one more
keeps : (kept : List ℕ) (x : ℕ) (xs : List ℕ) (b : Bool) → list_any (nat_eq x) kept ≡ b →
    cond b kept (kept ++ x ∷ []) ++ fresh (cond b kept (kept ++ x ∷ [])) xs ≡ kept ++ fresh kept (x ∷ xs)
keeps kept x xs true e = ap (λ ys. kept ++ ys) (sym (fresh_old kept x xs e))
keeps kept x xs false e = append_assoc kept (x ∷ []) (fresh (kept ++ x ∷ []) xs) ∙ ap (λ ys. kept ++ ys) (sym (fresh_new kept x xs e))

pub next_kept : (l : List ℕ) (i x : ℕ) (kept new whole : List ℕ) → i < length l → x ≡ get_or l i x → new ≡ with_new kept x →
    kept ++ fresh kept (drop i l) ≡ whole → new ++ fresh new (drop (i + 1) l) ≡ whole
next_kept l i x kept new whole lt is added e =
    ap (λ ys. ys ++ fresh ys (drop (i + 1) l)) added
    ∙ keeps kept x (drop (i + 1) l) (list_any (nat_eq x) kept) refl
    ∙ ap (λ ys. kept ++ fresh kept ys) (sym (split_at l i x lt is))
    ∙ e
  where
    split_at : (l : List ℕ) (i d : ℕ) → i < length l → d ≡ get_or l i d → drop i l ≡ d ∷ drop (i + 1) l
    split_at l i d below is = drop-cons l i d below ∙ rw add-one (ap (λ y. y ∷ drop (suc i) l) (sym is))

-- at the beginning
pub none_kept : (l kept : List ℕ) → kept ≡ [] → kept ++ fresh kept l ≡ first_of_each l
none_kept l kept e = ap (λ ys. ys ++ fresh ys l) e ∙ all_fresh l
