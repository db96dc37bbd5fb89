-- Cells of lists, where one is written.
use Rattle.std.proofs.Common.{◌≡◌, ◌∙◌, ◌<◌, ℕ, zero, suc, ◌+◌, List, [], ◌∷◌, Some, None, refl, sym, ap, ap₂, arith, replicate}
use Rattle.std.specs.Prelude.{drop, slice_get, slice_index_or, slice_set, take, unwrap_or}
use Rattle.pt_base.proofs.Options.{some_same}

-- what is there, or else this
got : {A : Type 0} (xs : List A) (i : ℕ) (d : A) → slice_index_or xs i d ≡ unwrap_or (slice_get xs i) d
got [] zero d = refl
got [] (suc i) d = refl
got (x ∷ xs) zero d = refl
got (x ∷ xs) (suc i) d = got xs i d

pub same_got : {A : Type 0} (xs ys : List A) (i : ℕ) (d : A) → slice_get xs i ≡ slice_get ys i → slice_index_or xs i d ≡ slice_index_or ys i d
same_got xs ys i d same = got xs i d ∙ ap (λ o. unwrap_or o d) same ∙ sym (got ys i d)

-- each of so many equal ones
pub replicate_keeps : {A : Type 0} (P : A → Type 0) (n i : ℕ) (x d : A) → P x → P d → P (slice_index_or (replicate n x) i d)
replicate_keeps P zero zero x d new old = old
replicate_keeps P zero (suc i) x d new old = old
replicate_keeps P (suc n) zero x d new old = new
replicate_keeps P (suc n) (suc i) x d new old = replicate_keeps P n i x d new old

-- what holds of the cell that is written and of each that was there holds of each
pub set_keeps : {A : Type 0} (P : A → Type 0) (xs : List A) (i : ℕ) (x : A) (j : ℕ) (d : A) → P x → P (slice_index_or xs j d) → P (slice_index_or (slice_set xs i x) j d)
set_keeps P [] zero x j d new old = old
set_keeps P [] (suc i) x j d new old = old
set_keeps P (y ∷ ys) zero x zero d new old = new
set_keeps P (y ∷ ys) zero x (suc j) d new old = old
set_keeps P (y ∷ ys) (suc i) x zero d new old = old
set_keeps P (y ∷ ys) (suc i) x (suc j) d new old = set_keeps P ys i x j d new old

none_set : {A : Type 0} (xs : List A) (i : ℕ) (x : A) (j : ℕ) → slice_get xs j ≡ None → slice_get (slice_set xs i x) j ≡ None
none_set [] zero x j h = h
none_set [] (suc i) x j h = h
none_set (y ∷ ys) zero x zero h = cc
none_set (y ∷ ys) zero x (suc j) h = h
none_set (y ∷ ys) (suc i) x zero h = cc
none_set (y ∷ ys) (suc i) x (suc j) h = none_set ys i x j h

-- the same cell is written in both
pub set_alike : {A : Type 0} (xs ys : List A) (i : ℕ) (x : A) (j : ℕ) → slice_get xs i ≡ slice_get ys i → slice_get xs j ≡ slice_get ys j → slice_get (slice_set xs i x) j ≡ slice_get (slice_set ys i x) j
set_alike [] ys i x j same other = none_set [] i x j refl ∙ sym (none_set ys i x j (sym other))
set_alike (z ∷ zs) [] i x j same other = none_set (z ∷ zs) i x j other ∙ sym (none_set [] i x j refl)
set_alike (z ∷ zs) (y ∷ ys) zero x zero same other = refl
set_alike (z ∷ zs) (y ∷ ys) zero x (suc j) same other = other
set_alike (z ∷ zs) (y ∷ ys) (suc i) x zero same other = other
set_alike (z ∷ zs) (y ∷ ys) (suc i) x (suc j) same other = set_alike zs ys i x j same other

-- ---- so many cells

get_drop : {A : Type 0} (xs : List A) (at i : ℕ) → slice_get (drop at xs) i ≡ slice_get xs (at + i)
get_drop xs zero i = ap (slice_get xs) (let e : i ≡ 0 + i = omega arith in e)
get_drop [] (suc at) i = refl
get_drop (x ∷ xs) (suc at) i = get_drop xs at i ∙ ap (slice_get (x ∷ xs)) (let e : suc (at + i) ≡ suc at + i = omega arith in e)

-- the same, cell by cell, is the same list
front_same : {A : Type 0} (xs ys : List A) (count : ℕ) → ((i : ℕ) → i < count → slice_get xs i ≡ slice_get ys i) → take count xs ≡ take count ys
front_same xs ys zero same = refl
front_same [] [] (suc count) same = refl
front_same [] (y ∷ ys) (suc count) same = let e : None ≡ Some y = same 0 (omega arith) in cc
front_same (x ∷ xs) [] (suc count) same = let e : Some x ≡ None = same 0 (omega arith) in cc
front_same (x ∷ xs) (y ∷ ys) (suc count) same =
    ap₂ (λ z zs. z ∷ zs) (some_same x y (same 0 (omega arith))) (front_same xs ys count (λ i lt. same (suc i) (omega (arith, lt))))

pub part_same : {A : Type 0} (xs ys : List A) (at count : ℕ) → ((i : ℕ) → i < count → slice_get xs (at + i) ≡ slice_get ys (at + i)) → take count (drop at xs) ≡ take count (drop at ys)
part_same xs ys at count same = front_same (drop at xs) (drop at ys) count (λ i lt. get_drop xs at i ∙ same i lt ∙ sym (get_drop ys at i))

-- what holds of each that is there holds of each of a part
pub record AllHold {A : Type 0} (P : A → Type 0) (xs : List A) : Type 0 where
  pub each : (i : ℕ) (x : A) → slice_get xs i ≡ Some x → P x

part_at : {A : Type 0} (xs : List A) (count i : ℕ) (x : A) → slice_get (take count xs) i ≡ Some x → slice_get xs i ≡ Some x
part_at xs zero i x at = cc
part_at [] (suc count) i x at = cc
part_at (y ∷ ys) (suc count) zero x at = at
part_at (y ∷ ys) (suc count) (suc i) x at = part_at ys count i x at

pub part_holds : {A : Type 0} (P : A → Type 0) (xs : List A) (at count : ℕ) → ((i : ℕ) (x : A) → slice_get xs i ≡ Some x → P x) → AllHold P (take count (drop at xs))
part_holds P xs at count each = record { each = λ i x there. each (at + i) x (sym (get_drop xs at i) ∙ part_at (drop at xs) count i x there) }

pub first_holds : {A : Type 0} (P : A → Type 0) (x : A) (xs : List A) → AllHold P (x ∷ xs) → P x
first_holds P x xs all = all.each 0 x refl

pub rest_hold : {A : Type 0} (P : A → Type 0) (x : A) (xs : List A) → AllHold P (x ∷ xs) → AllHold P xs
rest_hold P x xs all = record { each = λ i y there. all.each (suc i) y there }

pub got_there : {A : Type 0} (xs : List A) (i : ℕ) (x d : A) → slice_get xs i ≡ Some x → slice_index_or xs i d ≡ x
got_there xs i x d at = got xs i d ∙ ap (λ o. unwrap_or o d) at
