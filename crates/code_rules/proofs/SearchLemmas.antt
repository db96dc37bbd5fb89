-- A search in a list that is in the order of its numbers.
use Rattle.std.proofs.Common.{◌≡◌, ◌∙◌, ◌<◌, ◌≤◌, ℕ, zero, suc, List, [], ◌∷◌, length, map, get_or, Some, None, refl, sym, ap, subst, arith, nat_eq, nat_cmp, Less, Equal, Greater, ⊎_elim}
use Rattle.std.specs.Prelude.{IsTrue, nat_le}
use Rattle.std.specs.List.{HoldsAt}
use Rattle.std.specs.List.Sorted.{IsNonDecreasingBy, IsPartitionPoint}
use Rattle.std.specs.Map.{lookup}
use Rattle.std.specs.Ordering.{ordering_index}
use Rattle.std.proofs.lemmas.Bool.{cases_lt}
use Rattle.std.proofs.lemmas.Bool.Decides.{nat_tests}
use Rattle.std.proofs.lemmas.Cmp.{ranked}
use Rattle.pt_base.specs.declared.ids.FnId.{FnId}
use Rattle.pt_base.proofs.Booleans.{both_hold_first, both_hold_second, cond_false, cond_true}
use Rattle.pt_base.proofs.Lists.{map_map_turned}
use Rattle.pt_base.proofs.Numbers.{nat_eq_from_suc, nat_eq_other_turned, nat_eq_true_turned}
use Rattle.pt_base.proofs.Orders.{cmp_greater_apart, cmp_index_rises, cmp_less_apart}
use Rattle.pt_tree.specs.declared.signature.Signature.{Signature}
use Rattle.typed_tree.specs.WellFormed.{are_rising}
use Rattle.pt_core.specs.declared.global.GlobalVar.{GlobalVar}
use Rattle.pt_core.specs.CodeTree.{numbered, view_global}

-- ---- numbers in order

-- a list's elements by their numbers
abbrev pub entries : {X V : Type 0} → (X → ℕ) → (X → V) → List X → List (ℕ × V)
entries key value xs = map (λ x. (key x, value x)) xs

abbrev pub Rises : {X : Type 0} → (X → ℕ) → ℕ → List X → Type 0
Rises key low xs = IsTrue (are_rising low (map key xs))

head_is : {X : Type 0} (key : X → ℕ) (low : ℕ) (x : X) (xs : List X) → Rises key low (x ∷ xs) → low ≤ key x
head_is key low x xs h = let first = both_hold_first (nat_le low (key x)) (are_rising (suc (key x)) (map key xs)) h in grind (arith, nat_tests, first)

rest_rises : {X : Type 0} (key : X → ℕ) (low : ℕ) (x : X) (xs : List X) → Rises key low (x ∷ xs) → Rises key (suc (key x)) xs
rest_rises key low x xs h = both_hold_second (nat_le low (key x)) (are_rising (suc (key x)) (map key xs)) h

-- none is below where they begin
no_less : {X : Type 0} (key : X → ℕ) (low : ℕ) (xs : List X) (i : ℕ) (d : X) → Rises key low xs → i < length xs → low ≤ key (get_or xs i d)
no_less key low [] i d h within = absurd (omega arith)
no_less key low (x ∷ xs) zero d h within = head_is key low x xs h
no_less key low (x ∷ xs) (suc i) d h within =
    let first : low ≤ key x = head_is key low x xs h in
    let rest : suc (key x) ≤ key (get_or xs i d) = no_less key (suc (key x)) xs i d (rest_rises key low x xs h) (omega arith) in
    omega arith

-- they rise from place to place
rise : {X : Type 0} (key : X → ℕ) (low : ℕ) (xs : List X) (i j : ℕ) (d : X) → Rises key low xs → i ≤ j → j < length xs → key (get_or xs i d) ≤ key (get_or xs j d)
rise key low [] i j d h le within = absurd (omega arith)
rise key low (x ∷ xs) zero zero d h le within = omega arith
rise key low (x ∷ xs) zero (suc j) d h le within =
    let rest : suc (key x) ≤ key (get_or xs j d) = no_less key (suc (key x)) xs j d (rest_rises key low x xs h) (omega arith) in
    omega arith
rise key low (x ∷ xs) (suc i) zero d h le within = absurd (omega arith)
rise key low (x ∷ xs) (suc i) (suc j) d h le within = rise key (suc (key x)) xs i j d (rest_rises key low x xs h) (omega arith) (omega arith)

orders_rise : {X : Type 0} (key : X → ℕ) (f : ℕ) (xs : List X) → Rises key 0 xs → IsNonDecreasingBy (λ x. ordering_index (nat_cmp (key x) f)) xs
orders_rise key f xs h = λ i j d le within. cmp_index_rises (key (get_or xs i d)) (key (get_or xs j d)) f (rise key 0 xs i j d h le within)

-- ---- what is found

found_at : {X V : Type 0} (key : X → ℕ) (value : X → V) (low f : ℕ) (xs : List X) (i : ℕ) (x : X) → Rises key low xs → i < length xs → x ≡ get_or xs i x → key x ≡ f →
    lookup (nat_eq f) (entries key value xs) ≡ Some (value x)
found_at key value low f [] i x h within is same = absurd (omega arith)
found_at key value low f (y ∷ ys) zero x h within is same =
    cond_true (nat_eq f (key y)) (Some (value y)) (lookup (nat_eq f) (entries key value ys)) (nat_eq_true_turned f (key y) (ap key (sym is) ∙ same)) ∙ ap (λ z. Some (value z)) (sym is)
found_at key value low f (y ∷ ys) (suc i) x h within is same =
    let above : suc (key y) ≤ key (get_or ys i x) = no_less key (suc (key y)) ys i x (rest_rises key low y ys h) (omega arith) in
    let there : key (get_or ys i x) ≡ f = ap key (sym is) ∙ same in
    cond_false (nat_eq f (key y)) (Some (value y)) (lookup (nat_eq f) (entries key value ys)) (nat_eq_from_suc f (key y) (omega (arith, above, there)))
    ∙ found_at key value (suc (key y)) f ys i x (rest_rises key low y ys h) (omega arith) is same

-- the search ends at an entry
pub found_entry : {X V : Type 0} (key : X → ℕ) (value : X → V) (f : ℕ) (xs : List X) (i : ℕ) (x : X) → Rises key 0 xs → i < length xs → HoldsAt (λ y. nat_cmp (key y) f ≡ Equal) xs i → x ≡ get_or xs i x →
    lookup (nat_eq f) (entries key value xs) ≡ Some (value x)
found_entry key value f xs i x h within equal is = found_at key value 0 f xs i x h within is (ap key is ∙ ranked (key (get_or xs i x)) f Equal (sym (equal x)))

none_by : {X V : Type 0} (key : X → ℕ) (value : X → V) (f : ℕ) (xs : List X) → ((i : ℕ) (d : X) → i < length xs → key (get_or xs i d) ≡ f → ⊥) → lookup (nat_eq f) (entries key value xs) ≡ None
none_by key value f [] other = refl
none_by key value f (y ∷ ys) other =
    cond_false (nat_eq f (key y)) (Some (value y)) (lookup (nat_eq f) (entries key value ys)) (nat_eq_other_turned f (key y) (other zero y (omega arith)))
    ∙ none_by key value f ys (λ i d within. other (suc i) d (omega arith))

-- or between those that are less and those that are greater
pub no_entry : {X V : Type 0} (key : X → ℕ) (value : X → V) (f : ℕ) (xs : List X) (i : ℕ) → Rises key 0 xs
    → (IsNonDecreasingBy (λ y. ordering_index (nat_cmp (key y) f)) xs → IsPartitionPoint (λ y. nat_cmp (key y) f ≡ Less) (λ y. nat_cmp (key y) f ≡ Greater) xs i)
    → lookup (nat_eq f) (entries key value xs) ≡ None
no_entry key value f xs i h parted =
    let halves = parted (orders_rise key f xs h) in
    none_by key value f xs (λ j d within same. ⊎_elim (λ lt. cmp_less_apart (key (get_or xs j d)) f (halves.0 j d (omega arith) lt) same) (λ le. cmp_greater_apart (key (get_or xs j d)) f (halves.1 j d le within) same) (cases_lt j i))

-- ---- signatures

abbrev number_of : FnId × Signature → ℕ
number_of s = s.0.0

signatures_rise : (xs : List (FnId × Signature)) → IsTrue (are_rising 0 (map (λ s. s.0) (numbered xs))) → Rises number_of 0 xs
signatures_rise xs h = subst (λ ns. IsTrue (are_rising 0 ns)) (map_map_turned (λ (x : FnId × Signature). (x.0.0, x.1)) (λ (s : ℕ × Signature). s.0) xs) h

pub found_signature : (xs : List (FnId × Signature)) (f i : ℕ) (x : FnId × Signature) → IsTrue (are_rising 0 (map (λ s. s.0) (numbered xs))) → i < length xs → HoldsAt (λ (y : FnId × Signature). nat_cmp y.0.0 f ≡ Equal) xs i → x ≡ get_or xs i x →
    lookup (nat_eq f) (numbered xs) ≡ Some x.1
found_signature xs f i x h within equal is = found_entry number_of (λ y. y.1) f xs i x (signatures_rise xs h) within equal is

pub no_signature : (xs : List (FnId × Signature)) (f i : ℕ) → IsTrue (are_rising 0 (map (λ s. s.0) (numbered xs)))
    → (IsNonDecreasingBy (λ (y : FnId × Signature). ordering_index (nat_cmp y.0.0 f)) xs → IsPartitionPoint (λ (y : FnId × Signature). nat_cmp y.0.0 f ≡ Less) (λ (y : FnId × Signature). nat_cmp y.0.0 f ≡ Greater) xs i)
    → lookup (nat_eq f) (numbered xs) ≡ None
no_signature xs f i h parted = no_entry number_of (λ y. y.1) f xs i (signatures_rise xs h) parted

-- ---- globals

abbrev global_number : GlobalVar → ℕ
global_number g = g.id.0

globals_rise : (xs : List GlobalVar) → IsTrue (are_rising 0 (map (λ g. g.id) (map view_global xs))) → Rises global_number 0 xs
globals_rise xs h = subst (λ ns. IsTrue (are_rising 0 ns)) (map_map_turned view_global (λ g. g.id) xs) h

pub found_global : (xs : List GlobalVar) (f i : ℕ) (x : GlobalVar) → IsTrue (are_rising 0 (map (λ g. g.id) (map view_global xs))) → i < length xs → HoldsAt (λ (y : GlobalVar). nat_cmp y.id.0 f ≡ Equal) xs i → x ≡ get_or xs i x →
    lookup (nat_eq f) (map (λ g. (g.id, g.var.ty)) (map view_global xs)) ≡ Some x.var.ty
found_global xs f i x h within equal is =
    ap (lookup (nat_eq f)) (map_map_turned view_global (λ g. (g.id, g.var.ty)) xs) ∙ found_entry global_number (λ y. y.var.ty) f xs i x (globals_rise xs h) within equal is

pub no_global : (xs : List GlobalVar) (f i : ℕ) → IsTrue (are_rising 0 (map (λ g. g.id) (map view_global xs)))
    → (IsNonDecreasingBy (λ (y : GlobalVar). ordering_index (nat_cmp y.id.0 f)) xs → IsPartitionPoint (λ (y : GlobalVar). nat_cmp y.id.0 f ≡ Less) (λ (y : GlobalVar). nat_cmp y.id.0 f ≡ Greater) xs i)
    → lookup (nat_eq f) (map (λ g. (g.id, g.var.ty)) (map view_global xs)) ≡ None
no_global xs f i h parted =
    ap (lookup (nat_eq f)) (map_map_turned view_global (λ g. (g.id, g.var.ty)) xs) ∙ no_entry global_number (λ y. y.var.ty) f xs i (globals_rise xs h) parted
