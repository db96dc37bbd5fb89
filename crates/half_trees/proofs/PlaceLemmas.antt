-- What is found at the first place of a number.
use Rattle.std.proofs.Common.{◌≡◌, ℕ, zero, suc, ◌+◌, ◌-◌, ◌<◌, ◌≤◌, Bool, true, false, List, [], ◌∷◌, Option, Some, None, length, get_or, drop, map, cond, nat_eq, option_and_then, option_map, slice_get, refl, sym, ap, ◌∙◌, arith, rules, drop-cons, add-one, true≢false}
use Rattle.std.proofs.lemmas.Bool.Decides.{nat_tests}
use Rattle.std.proofs.lemmas.Grind.{common_steps}
use Rattle.std.specs.List.{position_from, find}
use Rattle.std.specs.Map.{lookup}
use Rattle.std.specs.Ordering.{nat_cmp, is_eq}
use Rattle.pt_base.proofs.Numbers.{as_minus_self}
use Rattle.typed_tree.specs.declared.types.VarTy.{VarTy}
use Rattle.pt_core.specs.CodeTree.{view_global}
use Rattle.pt_core.specs.declared.global.GlobalVar.{GlobalVar}

some_is : (i j : ℕ) → Some i ≡ Some j → j ≡ i
some_is i j h = search (rules, h)

shifted : (i j : ℕ) → i + 1 ≤ j → j - i ≡ suc (j - (i + 1))
shifted i j h = omega arith

less_nothing : (i : ℕ) → i - 0 ≡ i
less_nothing i = omega arith

-- a place is none before where the list starts
later : (n i j : ℕ) (numbers : List ℕ) → position_from (nat_eq n) i numbers ≡ Some j → i ≤ j
later n i j [] h = search (rules, h)
later n i j (k ∷ numbers) h = go (nat_eq n k) (later n (i + 1) j numbers) h
  where
    go : (b : Bool) → (position_from (nat_eq n) (i + 1) numbers ≡ Some j → i + 1 ≤ j) → cond b (Some i) (position_from (nat_eq n) (i + 1) numbers) ≡ Some j → i ≤ j
    go true rest g = omega (arith, some_is i j g)
    go false rest g = omega (arith, rest g)

pub same_test : (k n : ℕ) → is_eq (nat_cmp k n) ≡ nat_eq n k
same_test k n = grind (arith, nat_tests, common_steps)

-- one number more at the front
pub step : (numbers : List ℕ) (at i k n : ℕ) (old new : Option ℕ) → at ≡ i + 1 → i < length numbers → k ≡ get_or numbers i 0
    → old ≡ position_from (nat_eq n) at (drop at numbers) → new ≡ cond (nat_eq n k) (Some i) old → new ≡ position_from (nat_eq n) i (drop i numbers)
step numbers at i k n old new next within read was is =
    let rest : drop at numbers ≡ drop (suc i) numbers = ap (λ n. drop n numbers) (next ∙ add-one i) in
    let front : drop i numbers ≡ k ∷ drop (suc i) numbers = drop-cons numbers i 0 within ∙ ap (λ r. r ∷ drop (suc i) numbers) (sym read) in
    is ∙ ap (cond (nat_eq n k) (Some i)) (was ∙ ap (position_from (nat_eq n) at) rest ∙ ap (λ m. position_from (nat_eq n) m (drop (suc i) numbers)) next)
    ∙ sym (ap (position_from (nat_eq n) i) front)

-- what a look-up finds, by the place of the number
pub looked : {A B : Type 0} (key : A → ℕ) (val : A → B) (n i : ℕ) (xs : List A)
    → lookup (nat_eq n) (map (λ x. (key x, val x)) xs) ≡ option_and_then (λ j. option_map val (slice_get xs (j - i))) (position_from (nat_eq n) i (map key xs))
looked key val n i [] = refl
looked {A} {B} key val n i (x ∷ xs) = go (nat_eq n (key x)) (position_from (nat_eq n) (i + 1) (map key xs)) (λ j e. later n (i + 1) j (map key xs) e) (looked key val n (i + 1) xs)
  where
    go : (b : Bool) (o : Option ℕ) → ((j : ℕ) → o ≡ Some j → i + 1 ≤ j)
        → lookup (nat_eq n) (map (λ x. (key x, val x)) xs) ≡ option_and_then (λ j. option_map val (slice_get xs (j - (i + 1)))) o
        → cond b (Some (val x)) (lookup (nat_eq n) (map (λ x. (key x, val x)) xs)) ≡ option_and_then (λ j. option_map val (slice_get (x ∷ xs) (j - i))) (cond b (Some i) o)
    go true o bound rest = ap (λ k. option_map val (slice_get (x ∷ xs) k)) (as_minus_self i)
    go false None bound rest = rest
    go false (Some j) bound rest = rest ∙ sym (ap (λ k. option_map val (slice_get (x ∷ xs) k)) (shifted i j (bound j refl)))

-- the same of the first element that passes
pub found_first : {A B : Type 0} (key : A → ℕ) (view : A → B) (id : B → ℕ) → ((x : A) → id (view x) ≡ key x) → (n : ℕ) (xs : List A) → find (λ y. nat_eq n (id y)) (map view xs) ≡ lookup (nat_eq n) (map (λ x. (key x, view x)) xs)
found_first key view id same n [] = refl
found_first {A} {B} key view id same n (x ∷ xs) =
    ap (λ k. cond (nat_eq n k) (Some (view x)) (find (λ y. nat_eq n (id y)) (map view xs))) (same x)
    ∙ ap (cond (nat_eq n (key x)) (Some (view x))) (found_first key view id same n xs)

-- what is found at the first place of a number
pub found : {A B : Type 0} (key : A → ℕ) (val : A → B) (n j : ℕ) (xs : List A) (o : Option A) → position_from (nat_eq n) 0 (map key xs) ≡ Some j → slice_get xs j ≡ o
    → lookup (nat_eq n) (map (λ x. (key x, val x)) xs) ≡ option_map val o
found key val n j xs o at is =
    looked key val n 0 xs ∙ ap (option_and_then (λ j. option_map val (slice_get xs (j - 0)))) at ∙ ap (λ k. option_map val (slice_get xs k)) (less_nothing j) ∙ ap (option_map val) is

pub missing : {A B : Type 0} (key : A → ℕ) (val : A → B) (n : ℕ) (xs : List A) → position_from (nat_eq n) 0 (map key xs) ≡ None → lookup (nat_eq n) (map (λ x. (key x, val x)) xs) ≡ None
missing key val n xs at = looked key val n 0 xs ∙ ap (option_and_then (λ j. option_map val (slice_get xs (j - 0)))) at

-- the types of globals by their numbers
pub types_of_globals : (gs : List GlobalVar) → map {B = ℕ × VarTy} (λ g. (g.id, g.var.ty)) (map view_global gs) ≡ map (λ g. (g.id.0, g.var.ty)) gs
types_of_globals [] = refl
types_of_globals (g ∷ gs) = ap (λ xs. (g.id.0, g.var.ty) ∷ xs) (types_of_globals gs)
