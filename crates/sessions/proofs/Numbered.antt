-- Lists under rising numbers: what stands under a number, at a place, and behind a change.
use Rattle.std.proofs.Common.{◌≡◌, ◌<◌, ◌≤◌, ℕ, zero, suc, List, [], ◌∷◌, ◌++◌, length, slice_get, slice_set, remove, Bool, true, false, cond, nat_eq, Option, Some, None, refl, sym, ◌∙◌, ap, subst, arith}
use Rattle.std.specs.Map.{lookup, remove_entry, set_value}
use Rattle.pt_base.proofs.Booleans.{cond_false, cond_true}
use Rattle.pt_base.proofs.Numbers.{nat_eq_above, nat_eq_below, nat_eq_from_suc, nat_eq_other, nat_eq_same, nat_eq_self}
use Rattle.pt_base.proofs.Options.{none_not_some, some_not_none, some_same}
use Rattle.sessions.specs.Hubs.{Rise}

-- ---- at a place

at_least : {X : Type 0} (least end : ℕ) (xs : List (ℕ × X)) (i s : ℕ) (x : X) → Rise least end xs → slice_get xs i ≡ Some (s, x) → least ≤ s
at_least least end [] i s x rise is = none_not_some (s, x) is
at_least {X = X} least end (y ∷ xs) zero s x rise is = subst (λ (e : ℕ × X). least ≤ e.0) (some_same y (s, x) is) rise.0
at_least least end (y ∷ xs) (suc i) s x rise is =
    let here = rise.0 in
    let later = at_least (suc y.0) end xs i s x rise.2 is in
    omega (arith, here, later)

-- the number of what stands further on isn't this one
further : {X : Type 0} (end : ℕ) (y : ℕ × X) (xs : List (ℕ × X)) (i s : ℕ) (x : X) → Rise (suc y.0) end xs → slice_get xs i ≡ Some (s, x) → nat_eq s y.0 ≡ false
further end y xs i s x rise is = nat_eq_from_suc s y.0 (at_least (suc y.0) end xs i s x rise is)

pub lookup_at : {X : Type 0} (least end : ℕ) (xs : List (ℕ × X)) (i s : ℕ) (x : X) → Rise least end xs → slice_get xs i ≡ Some (s, x) → lookup (nat_eq s) xs ≡ Some x
lookup_at least end [] i s x rise is = none_not_some (s, x) is
lookup_at {X = X} least end (y ∷ xs) zero s x rise is =
    subst (λ (e : ℕ × X). cond (nat_eq s e.0) (Some e.1) (lookup (nat_eq s) xs) ≡ Some x) (sym (some_same y (s, x) is)) (cond_true (nat_eq s s) (Some x) (lookup (nat_eq s) xs) (nat_eq_self s))
lookup_at least end (y ∷ xs) (suc i) s x rise is =
    cond_false (nat_eq s y.0) (Some y.1) (lookup (nat_eq s) xs) (further end y xs i s x rise.2 is) ∙ lookup_at (suc y.0) end xs i s x rise.2 is

pub set_at : {X : Type 0} (least end : ℕ) (xs : List (ℕ × X)) (i s : ℕ) (x w : X) → Rise least end xs → slice_get xs i ≡ Some (s, x) → slice_set xs i (s, w) ≡ set_value (nat_eq s) xs w
set_at least end [] i s x w rise is = none_not_some (s, x) is
set_at {X = X} least end (y ∷ xs) zero s x w rise is =
    subst (λ (e : ℕ × X). (s, w) ∷ xs ≡ cond (nat_eq s e.0) ((e.0, w) ∷ xs) (e ∷ set_value (nat_eq s) xs w)) (sym (some_same y (s, x) is))
    (sym (cond_true (nat_eq s s) ((s, w) ∷ xs) ((s, x) ∷ set_value (nat_eq s) xs w) (nat_eq_self s)))
set_at {X = X} least end (y ∷ xs) (suc i) s x w rise is =
    ap (λ (zs : List (ℕ × X)). y ∷ zs) (set_at (suc y.0) end xs i s x w rise.2 is)
    ∙ sym (cond_false (nat_eq s y.0) ((y.0, w) ∷ xs) (y ∷ set_value (nat_eq s) xs w) (further end y xs i s x rise.2 is))

pub remove_at : {X : Type 0} (least end : ℕ) (xs : List (ℕ × X)) (i s : ℕ) (x : X) → Rise least end xs → slice_get xs i ≡ Some (s, x) → remove xs i ≡ remove_entry (nat_eq s) xs
remove_at least end [] i s x rise is = none_not_some (s, x) is
remove_at {X = X} least end (y ∷ xs) zero s x rise is =
    subst (λ (e : ℕ × X). xs ≡ cond (nat_eq s e.0) xs (e ∷ remove_entry (nat_eq s) xs)) (sym (some_same y (s, x) is)) (sym (cond_true (nat_eq s s) xs ((s, x) ∷ remove_entry (nat_eq s) xs) (nat_eq_self s)))
remove_at {X = X} least end (y ∷ xs) (suc i) s x rise is =
    ap (λ (zs : List (ℕ × X)). y ∷ zs) (remove_at (suc y.0) end xs i s x rise.2 is)
    ∙ sym (cond_false (nat_eq s y.0) xs (y ∷ remove_entry (nat_eq s) xs) (further end y xs i s x rise.2 is))

-- ---- under no number

pub not_below : {X : Type 0} (least end : ℕ) (xs : List (ℕ × X)) (s : ℕ) → Rise least end xs → s < least → lookup (nat_eq s) xs ≡ None
not_below least end [] s rise less = refl
not_below least end (y ∷ xs) s rise less =
    let here = rise.0 in
    cond_false (nat_eq s y.0) (Some y.1) (lookup (nat_eq s) xs) (nat_eq_below s y.0 (omega (arith, less, here))) ∙ not_below (suc y.0) end xs s rise.2 (omega (arith, less, here))

pub not_past : {X : Type 0} (least end : ℕ) (xs : List (ℕ × X)) (s : ℕ) → Rise least end xs → end ≤ s → lookup (nat_eq s) xs ≡ None
not_past least end [] s rise past = refl
not_past least end (y ∷ xs) s rise past =
    let here = rise.1 in
    cond_false (nat_eq s y.0) (Some y.1) (lookup (nat_eq s) xs) (nat_eq_above s y.0 (omega (arith, past, here))) ∙ not_past (suc y.0) end xs s rise.2 past

-- ---- numbers rise behind a change

rise_sooner : {X : Type 0} (least least' end : ℕ) (xs : List (ℕ × X)) → Rise least end xs → least' ≤ least → Rise least' end xs
rise_sooner least least' end [] rise less = tt {0}
rise_sooner least least' end (y ∷ xs) rise less = let here = rise.0 in (omega (arith, here, less), rise.1, rise.2)

set_rises : {X : Type 0} (b : Bool) (least end : ℕ) (y : ℕ × X) (w : X) (xs zs : List (ℕ × X)) → Rise least end (y ∷ xs) → Rise (suc y.0) end zs → Rise least end (cond b ((y.0, w) ∷ xs) (y ∷ zs))
set_rises true least end y w xs zs rise more = (rise.0, rise.1, rise.2)
set_rises false least end y w xs zs rise more = (rise.0, rise.1, more)

pub rise_set : {X : Type 0} (test : ℕ → Bool) (least end : ℕ) (xs : List (ℕ × X)) (w : X) → Rise least end xs → Rise least end (set_value test xs w)
rise_set test least end [] w rise = rise
rise_set test least end (y ∷ xs) w rise = set_rises (test y.0) least end y w xs (set_value test xs w) rise (rise_set test (suc y.0) end xs w rise.2)

remove_rises : {X : Type 0} (b : Bool) (least end : ℕ) (y : ℕ × X) (xs zs : List (ℕ × X)) → Rise least end (y ∷ xs) → Rise (suc y.0) end zs → Rise least end (cond b xs (y ∷ zs))
remove_rises true least end y xs zs rise more = let here = rise.0 in rise_sooner (suc y.0) least end xs rise.2 (omega (arith, here))
remove_rises false least end y xs zs rise more = (rise.0, rise.1, more)

pub rise_remove : {X : Type 0} (test : ℕ → Bool) (least end : ℕ) (xs : List (ℕ × X)) → Rise least end xs → Rise least end (remove_entry test xs)
rise_remove test least end [] rise = rise
rise_remove test least end (y ∷ xs) rise = remove_rises (test y.0) least end y xs (remove_entry test xs) rise (rise_remove test (suc y.0) end xs rise.2)

pub rise_push : {X : Type 0} (least end : ℕ) (xs : List (ℕ × X)) (x : X) → Rise least end xs → least ≤ end → Rise least (suc end) (xs ++ (end, x) ∷ [])
rise_push least end [] x rise less = (less, omega arith, tt {0})
rise_push least end (y ∷ xs) x rise less = let below = rise.1 in (rise.0, omega (arith, below), rise_push (suc y.0) end xs x rise.2 (omega (arith, below)))

-- ---- as many, or fewer

set_length : {X : Type 0} (b : Bool) (y : ℕ × X) (w : X) (xs zs : List (ℕ × X)) → length zs ≡ length xs → length (cond b ((y.0, w) ∷ xs) (y ∷ zs)) ≡ suc (length xs)
set_length true y w xs zs same = refl
set_length false y w xs zs same = ap (λ n. suc n) same

pub length_set : {X : Type 0} (test : ℕ → Bool) (xs : List (ℕ × X)) (w : X) → length (set_value test xs w) ≡ length xs
length_set test [] w = refl
length_set test (y ∷ xs) w = set_length (test y.0) y w xs (set_value test xs w) (length_set test xs w)

remove_length : {X : Type 0} (b : Bool) (y : ℕ × X) (xs zs : List (ℕ × X)) → length zs ≤ length xs → length (cond b xs (y ∷ zs)) ≤ suc (length xs)
remove_length true y xs zs less = omega arith
remove_length false y xs zs less = omega (arith, less)

pub length_remove : {X : Type 0} (test : ℕ → Bool) (xs : List (ℕ × X)) → length (remove_entry test xs) ≤ length xs
length_remove test [] = omega arith
length_remove test (y ∷ xs) = remove_length (test y.0) y xs (remove_entry test xs) (length_remove test xs)

-- ---- under a number that is changed, and under others

set_same_in : {X : Type 0} (b : Bool) (s : ℕ) (y : ℕ × X) (x w : X) (xs zs : List (ℕ × X)) → nat_eq s y.0 ≡ b → (lookup (nat_eq s) xs ≡ Some x → lookup (nat_eq s) zs ≡ Some w) →
    cond b (Some y.1) (lookup (nat_eq s) xs) ≡ Some x → lookup (nat_eq s) (cond b ((y.0, w) ∷ xs) (y ∷ zs)) ≡ Some w
set_same_in true s y x w xs zs is rest h = cond_true (nat_eq s y.0) (Some w) (lookup (nat_eq s) xs) is
set_same_in false s y x w xs zs is rest h = cond_false (nat_eq s y.0) (Some y.1) (lookup (nat_eq s) zs) is ∙ rest h

pub set_same : {X : Type 0} (s : ℕ) (xs : List (ℕ × X)) (x w : X) → lookup (nat_eq s) xs ≡ Some x → lookup (nat_eq s) (set_value (nat_eq s) xs w) ≡ Some w
set_same s [] x w h = none_not_some x h
set_same s (y ∷ xs) x w h = set_same_in (nat_eq s y.0) s y x w xs (set_value (nat_eq s) xs w) refl (set_same s xs x w) h

-- another number than that of an entry
apart_from : (s t n : ℕ) → (t ≡ s → ⊥) → nat_eq s n ≡ true → nat_eq t n ≡ false
apart_from s t n apart is = nat_eq_other t n (λ same. apart (same ∙ sym (nat_eq_same s n is)))

set_other_in : {X : Type 0} (b : Bool) (s t : ℕ) (y : ℕ × X) (w : X) (xs zs : List (ℕ × X)) → (t ≡ s → ⊥) → nat_eq s y.0 ≡ b → lookup (nat_eq t) zs ≡ lookup (nat_eq t) xs →
    lookup (nat_eq t) (cond b ((y.0, w) ∷ xs) (y ∷ zs)) ≡ cond (nat_eq t y.0) (Some y.1) (lookup (nat_eq t) xs)
set_other_in true s t y w xs zs apart is rest =
    let other = apart_from s t y.0 apart is in
    cond_false (nat_eq t y.0) (Some w) (lookup (nat_eq t) xs) other ∙ sym (cond_false (nat_eq t y.0) (Some y.1) (lookup (nat_eq t) xs) other)
set_other_in {X = X} false s t y w xs zs apart is rest = ap (λ (o : Option X). cond (nat_eq t y.0) (Some y.1) o) rest

pub set_other : {X : Type 0} (s t : ℕ) (xs : List (ℕ × X)) (w : X) → (t ≡ s → ⊥) → lookup (nat_eq t) (set_value (nat_eq s) xs w) ≡ lookup (nat_eq t) xs
set_other s t [] w apart = refl
set_other s t (y ∷ xs) w apart = set_other_in (nat_eq s y.0) s t y w xs (set_value (nat_eq s) xs w) apart refl (set_other s t xs w apart)

remove_same_in : {X : Type 0} (b : Bool) (end s : ℕ) (y : ℕ × X) (xs zs : List (ℕ × X)) → Rise (suc y.0) end xs → nat_eq s y.0 ≡ b → lookup (nat_eq s) zs ≡ None → lookup (nat_eq s) (cond b xs (y ∷ zs)) ≡ None
remove_same_in true end s y xs zs rise is rest = let same = nat_eq_same s y.0 is in not_below (suc y.0) end xs s rise (omega (arith, same))
remove_same_in false end s y xs zs rise is rest = cond_false (nat_eq s y.0) (Some y.1) (lookup (nat_eq s) zs) is ∙ rest

pub remove_same : {X : Type 0} (least end s : ℕ) (xs : List (ℕ × X)) → Rise least end xs → lookup (nat_eq s) (remove_entry (nat_eq s) xs) ≡ None
remove_same least end s [] rise = refl
remove_same least end s (y ∷ xs) rise = remove_same_in (nat_eq s y.0) end s y xs (remove_entry (nat_eq s) xs) rise.2 refl (remove_same (suc y.0) end s xs rise.2)

remove_other_in : {X : Type 0} (b : Bool) (s t : ℕ) (y : ℕ × X) (xs zs : List (ℕ × X)) → (t ≡ s → ⊥) → nat_eq s y.0 ≡ b → lookup (nat_eq t) zs ≡ lookup (nat_eq t) xs →
    lookup (nat_eq t) (cond b xs (y ∷ zs)) ≡ cond (nat_eq t y.0) (Some y.1) (lookup (nat_eq t) xs)
remove_other_in true s t y xs zs apart is rest = sym (cond_false (nat_eq t y.0) (Some y.1) (lookup (nat_eq t) xs) (apart_from s t y.0 apart is))
remove_other_in {X = X} false s t y xs zs apart is rest = ap (λ (o : Option X). cond (nat_eq t y.0) (Some y.1) o) rest

pub remove_other : {X : Type 0} (s t : ℕ) (xs : List (ℕ × X)) → (t ≡ s → ⊥) → lookup (nat_eq t) (remove_entry (nat_eq s) xs) ≡ lookup (nat_eq t) xs
remove_other s t [] apart = refl
remove_other s t (y ∷ xs) apart = remove_other_in (nat_eq s y.0) s t y xs (remove_entry (nat_eq s) xs) apart refl (remove_other s t xs apart)

remove_none_in : {X : Type 0} (b : Bool) (s : ℕ) (y : ℕ × X) (xs zs : List (ℕ × X)) → (lookup (nat_eq s) xs ≡ None → zs ≡ xs) → cond b (Some y.1) (lookup (nat_eq s) xs) ≡ None → cond b xs (y ∷ zs) ≡ y ∷ xs
remove_none_in true s y xs zs rest h = some_not_none y.1 h
remove_none_in {X = X} false s y xs zs rest h = ap (λ (l : List (ℕ × X)). y ∷ l) (rest h)

pub remove_none : {X : Type 0} (s : ℕ) (xs : List (ℕ × X)) → lookup (nat_eq s) xs ≡ None → remove_entry (nat_eq s) xs ≡ xs
remove_none s [] h = refl
remove_none s (y ∷ xs) h = remove_none_in (nat_eq s y.0) s y xs (remove_entry (nat_eq s) xs) (remove_none s xs) h

pub push_other : {X : Type 0} (s end : ℕ) (xs : List (ℕ × X)) (x : X) → (s ≡ end → ⊥) → lookup (nat_eq s) (xs ++ (end, x) ∷ []) ≡ lookup (nat_eq s) xs
push_other s end [] x apart = cond_false (nat_eq s end) (Some x) None (nat_eq_other s end apart)
push_other {X = X} s end (y ∷ xs) x apart = ap (λ (o : Option X). cond (nat_eq s y.0) (Some y.1) o) (push_other s end xs x apart)

pub push_own : {X : Type 0} (least end : ℕ) (xs : List (ℕ × X)) (x : X) → Rise least end xs → lookup (nat_eq end) (xs ++ (end, x) ∷ []) ≡ Some x
push_own least end [] x rise = cond_true (nat_eq end end) (Some x) None (nat_eq_self end)
push_own least end (y ∷ xs) x rise = cond_false (nat_eq end y.0) (Some y.1) (lookup (nat_eq end) (xs ++ (end, x) ∷ [])) (nat_eq_above end y.0 rise.1) ∙ push_own (suc y.0) end xs x rise.2
