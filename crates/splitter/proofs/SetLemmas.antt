-- Sets of numbers as lists: below a bound, a set that was made of a list tells what is in it.
use Rattle.std.proofs.Common.{◌≡◌, ◌∙◌, ◌≤◌, ◌<◌, ℕ, zero, suc, ◌+◌, refl, ap, sym, subst, arith, ◌⊎◌, inl, inr, Bool, true, false, Option, None, Some, List, [], ◌∷◌, ◌++◌, length, map, cond}
use Rattle.std.specs.Prelude.{◌||◌, get_or, nat_eq, replicate}
use Rattle.std.specs.List.{Contains, filter, list_any, AllByRecursion}
use Rattle.std.proofs.lemmas.List.{length-replicate, length-map}
use Rattle.std.proofs.lemmas.Bool.{or_left, or_right}
use Rattle.pt_base.proofs.Booleans.{same_truth}
use Rattle.pt_base.proofs.Members.{contains_cases, contains_first, contains_later, contains_nothing, each_implies}
use Rattle.pt_base.proofs.Numbers.{nat_eq_same, nat_eq_true_turned}
use Rattle.pt_tree.specs.declared.signature.Signature.{Signature}
use Rattle.typed_tree.specs.declared.variable.TypedGlobal.{TypedGlobal}
use Rattle.typed_tree.specs.StatementTree.{BodyTree}
use Rattle.typed_tree.specs.TypedTree as typed
use Rattle.typed_tree.specs.TypedTree.{TypedTree}
use Rattle.reach.specs.Tables.{set_all}
use Rattle.reach.proofs.TableLemmas.{set_all_has, set_all_from, none_true}
use Rattle.pt_core.specs.CodeTree.{FunctionTree, GlobalTree}
use Rattle.lowering.specs.Functions.{code_if, functions_from, signatures_from, globals_from}
use Rattle.splitter.specs.Halves.{IsWholeCode, is_among}
use Rattle.splitter.specs.Sets.{is_set}

-- ---- members

pub among_from : (ns : List ℕ) (n : ℕ) → is_among ns n ≡ true → Contains ns n
among_from [] n h = cc
among_from (k ∷ ks) n h = go (λ i. among_from ks n i) (nat_eq n k) refl h
  where
    go : (is_among ks n ≡ true → Contains ks n) → (b : Bool) → nat_eq n k ≡ b → (b || is_among ks n) ≡ true → Contains (k ∷ ks) n
    go rest true e i = subst (λ (m : ℕ). Contains (k ∷ ks) m) (sym (nat_eq_same n k e)) (contains_first k ks)
    go rest false e i = contains_later k ks n (rest i)

pub among_has : (ns : List ℕ) (n : ℕ) → Contains ns n → is_among ns n ≡ true
among_has [] n h = absurd (contains_nothing n h)
among_has (k ∷ ks) n h = go (λ i. among_has ks n i) (contains_cases k ks n h)
  where
    go : (Contains ks n → is_among ks n ≡ true) → (k ≡ n) ⊎ Contains ks n → (nat_eq n k || is_among ks n) ≡ true
    go rest (inl e) = or_left (nat_eq n k) (is_among ks n) (nat_eq_true_turned n k e)
    go rest (inr i) = or_right (nat_eq n k) (is_among ks n) (rest i)

pub set_tells : (bound : ℕ) (ns : List ℕ) (n : ℕ) → n < bound → is_set (set_all (replicate bound false) ns) n ≡ is_among ns n
set_tells bound ns n lt =
    same_truth (is_set (set_all (replicate bound false) ns) n) (is_among ns n) (λ h. among_has ns n (listed (set_all_from (replicate bound false) ns n h)))
    (λ h. set_all_has (replicate bound false) ns n (let long = length-replicate bound false in omega (arith, long)) (among_from ns n h))
  where
    listed : (get_or (replicate bound false) n false ≡ true) ⊎ ((n < length (replicate bound false)) × Contains ns n) → Contains ns n
    listed (inl e) = absurd (none_true bound n e)
    listed (inr i) = i.1

-- ---- what tests choose

-- tests that agree on each item choose the same
pub same_chosen : {A : Type 0} (p q : A → Bool) (xs : List A) → AllByRecursion (λ (x : A). p x ≡ q x) xs → filter p xs ≡ filter q xs
same_chosen p q [] h = refl
same_chosen {A} p q (x ∷ xs) h =
    ap (λ (b : Bool). cond b (x ∷ filter p xs) (filter p xs)) h.0
    ∙ ap (λ (ys : List A). cond (q x) (x ∷ ys) ys) (same_chosen p q xs h.1)

-- the same of tests that agree on each item whose number is below a bound
pub chosen_below : {A : Type 0} (number : A → ℕ) (bound : ℕ) (p q : A → Bool) → ((x : A) → number x < bound → p x ≡ q x) → (xs : List A) → AllByRecursion (λ (x : A). number x < bound) xs → filter p xs ≡ filter q xs
chosen_below {A} number bound p q agree xs h = same_chosen p q xs (each_implies (λ (x : A). number x < bound) (λ (x : A). p x ≡ q x) agree xs h)

-- ---- numbers below a bound

pub signatures_below : (bound n : ℕ) (ss : List Signature) → n + length ss ≤ bound → AllByRecursion (λ (s : ℕ × Signature). s.0 < bound) (signatures_from n ss)
signatures_below bound n [] h = tt
signatures_below bound n (s ∷ ss) h = (omega (arith, h), signatures_below bound (suc n) ss (omega (arith, h)))

pub globals_below : (bound n : ℕ) (gs : List TypedGlobal) → n + length gs ≤ bound → AllByRecursion (λ (g : GlobalTree). g.id < bound) (globals_from n gs)
globals_below bound n [] h = tt
globals_below bound n (g ∷ gs) h = (omega (arith, h), globals_below bound (suc n) gs (omega (arith, h)))

functions_below : (t : TypedTree) (bound n : ℕ) (fs : List typed.FunctionTree) → n + length fs ≤ bound → AllByRecursion (λ (f : FunctionTree). f.id < bound) (functions_from t n fs)
functions_below t bound n [] h = tt
functions_below t bound n (f ∷ fs) h = go (functions_below t bound (suc n) fs (omega (arith, h))) f.body
  where
    here : n + suc (length fs) ≤ bound → n < bound
    here i = omega (arith, i)

    go : AllByRecursion (λ (f : FunctionTree). f.id < bound) (functions_from t (suc n) fs) → (o : Option BodyTree) → AllByRecursion (λ (f : FunctionTree). f.id < bound) (code_if t n f o ++ functions_from t (suc n) fs)
    go rest None = rest
    go rest (Some b) = (here h, rest)

numbers_below : (bound : ℕ) (fs : List FunctionTree) → AllByRecursion (λ (f : FunctionTree). f.id < bound) fs → AllByRecursion (λ (n : ℕ). n < bound) (map (λ (f : FunctionTree). f.id) fs)
numbers_below bound [] h = tt
numbers_below bound (f ∷ fs) h = (h.0, numbers_below bound fs h.1)

below_numbers : (bound : ℕ) (fs : List FunctionTree) → AllByRecursion (λ (n : ℕ). n < bound) (map (λ (f : FunctionTree). f.id) fs) → AllByRecursion (λ (f : FunctionTree). f.id < bound) fs
below_numbers bound [] h = tt
below_numbers bound (f ∷ fs) h = (h.0, below_numbers bound fs h.1)

-- the functions of a whole program's code are below the number of its functions
pub code_below : (t : TypedTree) (code : List FunctionTree) → IsWholeCode t code → AllByRecursion (λ (f : FunctionTree). f.id < length t.functions) code
code_below t code h =
    below_numbers (length t.functions) code
    (subst (λ (ns : List ℕ). AllByRecursion (λ (n : ℕ). n < length t.functions) ns) (sym h)
    (numbers_below (length t.functions) (functions_from t 0 t.functions) (functions_below t (length t.functions) 0 t.functions (omega arith))))
