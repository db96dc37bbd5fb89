-- Lists in the order of their numbers: what stands before one of them, and what a search by halves finds.
use Rattle.std.proofs.Common.{◌≡◌, ◌∙◌, ◌<◌, ◌≤◌, ℕ, zero, suc, List, [], ◌∷◌, ◌++◌, length, map, take, get_or, Some, None, refl, sym, ap, arith, nat_eq, nat_cmp, Less, Equal, Greater, ⊎_elim}
use Rattle.std.specs.Prelude.{IsTrue, nat_le, slice_get}
use Rattle.std.specs.List.{HoldsAt, find}
use Rattle.std.specs.List.Sorted.{IsNonDecreasingBy, IsPartitionPoint}
use Rattle.std.specs.Map.{lookup}
use Rattle.std.specs.Ordering.{ordering_index}
use Rattle.std.proofs.lemmas.Bool.{cases_lt}
use Rattle.pt_base.proofs.Booleans.{both_hold_first, both_hold_second, cond_false, cond_true, if_false, if_true}
use Rattle.pt_base.proofs.Numbers.{at_most_holds, nat_eq_from_suc, nat_eq_other_turned, nat_eq_true_turned}
use Rattle.pt_base.proofs.Options.{some_same}
use Rattle.pt_base.proofs.Orders.{cmp_equal, cmp_greater_apart, cmp_index_rises, cmp_less_apart}
use Rattle.pt_base.proofs.Places.{get_seam, get_there}
use Rattle.typed_tree.specs.WellFormed.{are_rising}
use Rattle.monitor_labels.specs.Nodes.{before}
use Rattle.monitor_labels.specs.Searching.{IsAt}

abbrev pub Rises : {X : Type 0} → (X → ℕ) → ℕ → List X → Type 0
Rises key low xs = IsTrue (are_rising low (map key xs))

pub first_is : {X : Type 0} (key : X → ℕ) (low : ℕ) (x : X) (xs : List X) → Rises key low (x ∷ xs) → low ≤ key x
first_is key low x xs h = at_most_holds low (key x) (both_hold_first (nat_le low (key x)) (are_rising (suc (key x)) (map key xs)) h)

pub rest_rises : {X : Type 0} (key : X → ℕ) (low : ℕ) (x : X) (xs : List X) → Rises key low (x ∷ xs) → Rises key (suc (key x)) xs
rest_rises key low x xs h = both_hold_second (nat_le low (key x)) (are_rising (suc (key x)) (map key xs)) h

-- none is below where they begin
pub least : {X : Type 0} (key : X → ℕ) (low : ℕ) (xs : List X) (i : ℕ) (x : X) → Rises key low xs → slice_get xs i ≡ Some x → low ≤ key x
least key low [] i x h at = cc
least {X} key low (y ∷ ys) zero x h at =
    let same : key y ≡ key x = ap key (some_same y x at) in
    let first : low ≤ key y = first_is key low y ys h in
    omega (arith, same, first)
least key low (y ∷ ys) (suc i) x h at =
    let first : low ≤ key y = first_is key low y ys h in
    let rest : suc (key y) ≤ key x = least key (suc (key y)) ys i x (rest_rises key low y ys h) at in
    omega (arith, first, rest)

-- ---- what stands at a place

pub before_at : {X : Type 0} (key : X → ℕ) (low f : ℕ) (xs : List X) (i : ℕ) (x : X) → Rises key low xs → slice_get xs i ≡ Some x → key x ≡ f → before key f xs ≡ take i xs
before_at key low f [] i x h at is = cc
before_at key low f (y ∷ ys) zero x h at is = if_true (nat_eq f (key y)) [] (y ∷ before key f ys) (nat_eq_true_turned f (key y) (ap key (some_same y x at) ∙ is))
before_at key low f (y ∷ ys) (suc i) x h at is =
    let above : suc (key y) ≤ key x = least key (suc (key y)) ys i x (rest_rises key low y ys h) at in
    let apart : suc (key y) ≤ f = omega (arith, above, is) in
    if_false (nat_eq f (key y)) [] (y ∷ before key f ys) (nat_eq_from_suc f (key y) apart)
    ∙ ap (λ zs. y ∷ zs) (before_at key (suc (key y)) f ys i x (rest_rises key low y ys h) at is)

take_seam : {X : Type 0} (xs ys : List X) → take (length xs) (xs ++ ys) ≡ xs
take_seam [] ys = refl
take_seam (x ∷ xs) ys = ap (λ zs. x ∷ zs) (take_seam xs ys)

-- of one behind others
pub before_seam : {X : Type 0} (key : X → ℕ) (all done : List X) (x : X) (rest : List X) → Rises key 0 all → all ≡ done ++ x ∷ rest → before key (key x) all ≡ done
before_seam key all done x rest h is =
    before_at key 0 (key x) all (length done) x h (ap (λ xs. slice_get xs (length done)) is ∙ get_seam done x rest) refl
    ∙ ap (take (length done)) is ∙ take_seam done (x ∷ rest)

pub find_at : {X : Type 0} (key : X → ℕ) (low f : ℕ) (xs : List X) (i : ℕ) (x : X) → Rises key low xs → slice_get xs i ≡ Some x → key x ≡ f → find (λ y. nat_eq f (key y)) xs ≡ Some x
find_at key low f [] i x h at is = cc
find_at key low f (y ∷ ys) zero x h at is =
    cond_true (nat_eq f (key y)) (Some y) (find (λ z. nat_eq f (key z)) ys) (nat_eq_true_turned f (key y) (ap key (some_same y x at) ∙ is)) ∙ at
find_at key low f (y ∷ ys) (suc i) x h at is =
    let above : suc (key y) ≤ key x = least key (suc (key y)) ys i x (rest_rises key low y ys h) at in
    let apart : suc (key y) ≤ f = omega (arith, above, is) in
    cond_false (nat_eq f (key y)) (Some y) (find (λ z. nat_eq f (key z)) ys) (nat_eq_from_suc f (key y) apart)
    ∙ find_at key (suc (key y)) f ys i x (rest_rises key low y ys h) at is

pub lookup_at : {V : Type 0} (low f : ℕ) (xs : List (ℕ × V)) (i : ℕ) (x : ℕ × V) → Rises (λ (e : ℕ × V). e.0) low xs → slice_get xs i ≡ Some x → x.0 ≡ f → lookup (nat_eq f) xs ≡ Some x.1
lookup_at low f [] i x h at is = cc
lookup_at {V} low f (y ∷ ys) zero x h at is =
    cond_true (nat_eq f y.0) (Some y.1) (lookup (nat_eq f) ys) (nat_eq_true_turned f y.0 (ap (λ (e : ℕ × V). e.0) (some_same y x at) ∙ is)) ∙ ap (λ (e : ℕ × V). Some e.1) (some_same y x at)
lookup_at {V} low f (y ∷ ys) (suc i) x h at is =
    let above : suc y.0 ≤ x.0 = least (λ (e : ℕ × V). e.0) (suc y.0) ys i x (rest_rises (λ (e : ℕ × V). e.0) low y ys h) at in
    let apart : suc y.0 ≤ f = omega (arith, above, is) in
    cond_false (nat_eq f y.0) (Some y.1) (lookup (nat_eq f) ys) (nat_eq_from_suc f y.0 apart)
    ∙ lookup_at (suc y.0) f ys i x (rest_rises (λ (e : ℕ × V). e.0) low y ys h) at is

-- ---- a search by halves

pub at_place : {X : Type 0} (key : X → ℕ) (f : ℕ) (xs : List X) (i : ℕ) → i < length xs → HoldsAt (λ y. nat_cmp (key y) f ≡ Equal) xs i → IsAt key f xs i
at_place key f xs i within equal = record { within = within; is = λ d. cmp_equal (key (get_or xs i d)) f (equal d) }

-- the element at the place
pub record Found {X : Type 0} (key : X → ℕ) (f : ℕ) (xs : List X) (i : ℕ) : Type 0 where
  pub x : X
  pub at : slice_get xs i ≡ Some x
  pub is : key x ≡ f

got_same : {X : Type 0} (xs : List X) (i : ℕ) (x d : X) → slice_get xs i ≡ Some x → get_or xs i d ≡ x
got_same [] i x d at = cc
got_same (y ∷ ys) zero x d at = some_same y x at
got_same (y ∷ ys) (suc i) x d at = got_same ys i x d at

pub found : {X : Type 0} (key : X → ℕ) (f : ℕ) (xs : List X) (i : ℕ) → IsAt key f xs i → Found key f xs i
found key f xs i at =
    let there = get_there xs i at.within in
    record { x = there.0; at = there.1; is = sym (ap key (got_same xs i there.0 there.0 there.1)) ∙ at.is there.0 }

rise : {X : Type 0} (key : X → ℕ) (low : ℕ) (xs : List X) (i j : ℕ) (d : X) → Rises key low xs → i ≤ j → j < length xs → key (get_or xs i d) ≤ key (get_or xs j d)
rise key low [] i j d h le within = absurd (omega arith)
rise key low (x ∷ xs) zero zero d h le within = omega arith
rise key low (x ∷ xs) zero (suc j) d h le within =
    let there = get_there xs j (let lt : j < length xs = omega (arith, within) in lt) in
    let above : suc (key x) ≤ key there.0 = least key (suc (key x)) xs j there.0 (rest_rises key low x xs h) there.1 in
    let same : key (get_or xs j d) ≡ key there.0 = ap key (got_same xs j there.0 d there.1) in
    omega (arith, above, same)
rise key low (x ∷ xs) (suc i) zero d h le within = absurd (omega arith)
rise key low (x ∷ xs) (suc i) (suc j) d h le within = rise key (suc (key x)) xs i j d (rest_rises key low x xs h) (omega arith) (omega arith)

none_by : {X : Type 0} (key : X → ℕ) (f : ℕ) (xs : List X) → ((i : ℕ) (d : X) → i < length xs → key (get_or xs i d) ≡ f → ⊥) → find (λ y. nat_eq f (key y)) xs ≡ None
none_by key f [] other = refl
none_by key f (y ∷ ys) other =
    cond_false (nat_eq f (key y)) (Some y) (find (λ z. nat_eq f (key z)) ys) (nat_eq_other_turned f (key y) (other zero y (omega arith)))
    ∙ none_by key f ys (λ i d within. other (suc i) d (omega arith))

-- between those that are less and those that are greater there is none
pub none_there : {X : Type 0} (key : X → ℕ) (f : ℕ) (xs : List X) (i : ℕ) → Rises key 0 xs
    → (IsNonDecreasingBy (λ y. ordering_index (nat_cmp (key y) f)) xs → IsPartitionPoint (λ y. nat_cmp (key y) f ≡ Less) (λ y. nat_cmp (key y) f ≡ Greater) xs i)
    → find (λ y. nat_eq f (key y)) xs ≡ None
none_there key f xs i h parted =
    let halves = parted (λ i j d le within. cmp_index_rises (key (get_or xs i d)) (key (get_or xs j d)) f (rise key 0 xs i j d h le within)) in
    none_by key f xs (λ j d within same. ⊎_elim (λ lt. cmp_less_apart (key (get_or xs j d)) f (halves.0 j d (omega arith) lt) same) (λ le. cmp_greater_apart (key (get_or xs j d)) f (halves.1 j d le within) same) (cases_lt j i))

-- ---- what is there

pub there_is : {X : Type 0} (xs : List X) (i : ℕ) (x : X) → i < length xs → x ≡ get_or xs i x → slice_get xs i ≡ Some x
there_is xs i x within is =
    let there = get_there xs i within in
    there.1 ∙ ap Some (sym (is ∙ got_same xs i there.0 x there.1))

pub found_entry : {X : Type 0} (key : X → ℕ) (f : ℕ) (xs : List X) (i : ℕ) (x : X) → Rises key 0 xs → i < length xs → HoldsAt (λ y. nat_cmp (key y) f ≡ Equal) xs i → x ≡ get_or xs i x → find (λ y. nat_eq f (key y)) xs ≡ Some x
found_entry key f xs i x h within equal is =
    let entry : Found key f xs i = found key f xs i (at_place key f xs i within equal) in
    find_at key 0 f xs i entry.x h entry.at entry.is ∙ sym entry.at ∙ there_is xs i x within is
