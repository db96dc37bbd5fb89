-- Walking along integers and numbers at once.
use Rattle.std.proofs.Common.{◌≡◌, ◌≤◌, ◌<◌, ◌+◌, ◌-◌, ◌∙◌, ◌++◌, ◌==◌, drop, sym, ap, subst, refl, ℕ, ℤ, suc, Bool, true, false, List, [], ◌∷◌, length, arith, get_or, Option, Some, None}
use Rattle.std.specs.Prelude.{◌&&◌, if◌then◌else◌}
use Rattle.std.specs.List.{flat_map}
use Rattle.std.proofs.lemmas.Bool.Decides.{nat_tests}
use Rattle.std.proofs.lemmas.List.{drop_more, drop_all}
use Rattle.std.proofs.lemmas.Option.{none-some, same_Some}
use Rattle.pt_base.specs.declared.int_type.IntType.{IntType}
use Rattle.pt_int.specs.Conversion.{is_in_range}
use Rattle.typed_tree.specs.Cells.{repeated}
use Rattle.typed_tree.specs.WellFormed.{cells_fit}
use Rattle.boot_rules.specs.Walks.{past}

-- ---- whether numbers are left

ends_none : (vs : List ℤ) → [] ≡ vs → true ≡ (length vs == 0)
ends_none vs is = ap (λ xs. length xs == 0) is

ends_some : (v : ℤ) (vs ws : List ℤ) → (v ∷ vs) ≡ ws → false ≡ (length ws == 0)
ends_some v vs ws is = subst (λ xs. false ≡ (length xs == 0)) is (grind (arith, nat_tests))

pub fit_to_end : (ts : List IntType) (vs ws : List ℤ) → past ts vs ≡ Some ws → (length ws == 0) ≡ cells_fit ts vs
fit_to_end [] [] ws h = sym (ends_none ws (same_Some [] ws h))
fit_to_end [] (v ∷ vs) ws h = sym (ends_some v vs ws (same_Some (v ∷ vs) ws h))
fit_to_end (t ∷ ts) [] ws h = absurd (none-some ws h)
fit_to_end (t ∷ ts) (v ∷ vs) ws h = go (is_in_range t v) h (fit_to_end ts vs ws)
  where
    go : (b : Bool) → (if b then past ts vs else None) ≡ Some ws → (past ts vs ≡ Some ws → (length ws == 0) ≡ cells_fit ts vs) → (length ws == 0) ≡ (b && cells_fit ts vs)
    go true e later = later e
    go false e later = absurd (none-some ws e)

pub fit_not : (ts : List IntType) (vs : List ℤ) → past ts vs ≡ None → false ≡ cells_fit ts vs
fit_not [] vs h = absurd (none-some vs (sym h))
fit_not (t ∷ ts) [] h = refl
fit_not (t ∷ ts) (v ∷ vs) h = go (is_in_range t v) h (fit_not ts vs)
  where
    go : (b : Bool) → (if b then past ts vs else None) ≡ None → (past ts vs ≡ None → false ≡ cells_fit ts vs) → false ≡ (b && cells_fit ts vs)
    go true e later = later e
    go false e later = refl

-- ---- one list of integers behind the other

pub goes_on : (ts us : List IntType) (vs ws : List ℤ) → past ts vs ≡ Some ws → past (ts ++ us) vs ≡ past us ws
goes_on [] us vs ws h = ap (past us) (same_Some vs ws h)
goes_on (t ∷ ts) us [] ws h = absurd (none-some ws h)
goes_on (t ∷ ts) us (v ∷ vs) ws h = go (is_in_range t v) h (goes_on ts us vs ws)
  where
    go : (b : Bool) → (if b then past ts vs else None) ≡ Some ws → (past ts vs ≡ Some ws → past (ts ++ us) vs ≡ past us ws) → (if b then past (ts ++ us) vs else None) ≡ past us ws
    go true e later = later e
    go false e later = absurd (none-some ws e)

pub stops : (ts us : List IntType) (vs : List ℤ) → past ts vs ≡ None → past (ts ++ us) vs ≡ None
stops [] us vs h = absurd (none-some vs (sym h))
stops (t ∷ ts) us [] h = refl
stops (t ∷ ts) us (v ∷ vs) h = go (is_in_range t v) h (stops ts us vs)
  where
    go : (b : Bool) → (if b then past ts vs else None) ≡ None → (past ts vs ≡ None → past (ts ++ us) vs ≡ None) → (if b then past (ts ++ us) vs else None) ≡ None
    go true e later = later e
    go false e later = refl

-- ---- along a list of parts

pub part_goes : {X : Type 0} (leaves : X → List IntType) (xs : List X) (i : ℕ) (x : X) (vs ws : List ℤ) (whole : Option (List ℤ)) → i < length xs → x ≡ get_or xs i x → past (leaves x) vs ≡ Some ws →
    past (flat_map leaves (drop i xs)) vs ≡ whole → past (flat_map leaves (drop (i + 1) xs)) ws ≡ whole
part_goes leaves xs i x vs ws whole within is here all =
    let cut : drop i xs ≡ x ∷ drop (i + 1) xs = drop_more xs i x within ∙ ap (λ y. y ∷ drop (i + 1) xs) (sym is) in
    sym (goes_on (leaves x) (flat_map leaves (drop (i + 1) xs)) vs ws here) ∙ ap (λ ys. past (flat_map leaves ys) vs) (sym cut) ∙ all

pub part_stops : {X : Type 0} (leaves : X → List IntType) (xs : List X) (i : ℕ) (x : X) (vs : List ℤ) (whole : Option (List ℤ)) → i < length xs → x ≡ get_or xs i x → past (leaves x) vs ≡ None →
    past (flat_map leaves (drop i xs)) vs ≡ whole → whole ≡ None
part_stops leaves xs i x vs whole within is here all =
    let cut : drop i xs ≡ x ∷ drop (i + 1) xs = drop_more xs i x within ∙ ap (λ y. y ∷ drop (i + 1) xs) (sym is) in
    sym all ∙ ap (λ ys. past (flat_map leaves ys) vs) cut ∙ stops (leaves x) (flat_map leaves (drop (i + 1) xs)) vs here

pub parts_end : {X : Type 0} (leaves : X → List IntType) (xs : List X) (i : ℕ) (vs : List ℤ) (whole : Option (List ℤ)) → length xs ≤ i → past (flat_map leaves (drop i xs)) vs ≡ whole → whole ≡ Some vs
parts_end leaves xs i vs whole behind all = sym all ∙ ap (λ ys. past (flat_map leaves ys) vs) (drop_all i xs behind)

-- ---- along so many of one kind

one_fewer : (ts : List IntType) (n k : ℕ) → k < n → repeated (n - k) ts ≡ ts ++ repeated (n - (k + 1)) ts
one_fewer ts n k lt = let e : n - k ≡ suc (n - (k + 1)) = omega (arith, lt) in ap (λ m. repeated m ts) e

pub item_goes : (ts : List IntType) (n k : ℕ) (vs ws : List ℤ) (whole : Option (List ℤ)) → k < n → past ts vs ≡ Some ws → past (repeated (n - k) ts) vs ≡ whole → past (repeated (n - (k + 1)) ts) ws ≡ whole
item_goes ts n k vs ws whole lt here all =
    sym (goes_on ts (repeated (n - (k + 1)) ts) vs ws here) ∙ ap (λ us. past us vs) (sym (one_fewer ts n k lt)) ∙ all

pub item_stops : (ts : List IntType) (n k : ℕ) (vs : List ℤ) (whole : Option (List ℤ)) → k < n → past ts vs ≡ None → past (repeated (n - k) ts) vs ≡ whole → whole ≡ None
item_stops ts n k vs whole lt here all =
    sym all ∙ ap (λ us. past us vs) (one_fewer ts n k lt) ∙ stops ts (repeated (n - (k + 1)) ts) vs here

pub items_end : (ts : List IntType) (n k : ℕ) (vs : List ℤ) (whole : Option (List ℤ)) → n ≤ k → past (repeated (n - k) ts) vs ≡ whole → whole ≡ Some vs
items_end ts n k vs whole behind all =
    let none : n - k ≡ 0 = omega (arith, behind) in
    sym all ∙ ap (λ m. past (repeated m ts) vs) none
