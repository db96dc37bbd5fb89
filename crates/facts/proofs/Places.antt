-- Places of lists: what stands at a place, what is taken and what is dropped.
use Rattle.std.proofs.Common.{List, Some, [], add-one, ap, ap₂, arith, drop, drop-cons, get_or, length, refl, subst, suc, sym, take, zero, ℕ, ◌++◌, ◌+◌, ◌-◌, ◌<◌, ◌∙◌, ◌∷◌, ◌≡◌, ◌≤◌}
use Rattle.std.proofs.Math.Seq.{take-length}
use Rattle.std.proofs.lemmas.List.{drop_more}
use Rattle.std.proofs.lemmas.Option.{none-some}
use Rattle.std.specs.Option.{unwrap_or}
use Rattle.std.specs.Prelude.{map, option_map, slice_get}

pub get_below_length : {A : Type 0} (xs : List A) (k : ℕ) (x : A) → slice_get xs k ≡ Some x → k < length xs
get_below_length [] k x is = cc
get_below_length (y ∷ ys) zero x is = omega arith
get_below_length (y ∷ ys) (suc k) x is = let h = get_below_length ys k x is in omega (arith, h)

pub get_there : {X : Type 0} (xs : List X) (k : ℕ) → k < length xs → (x : X) × (slice_get xs k ≡ Some x)
get_there [] k h = absurd (omega arith)
get_there (x ∷ xs) zero h = (x, refl)
get_there (x ∷ xs) (suc k) h = get_there xs k (omega arith)

pub get_or_past : {A : Type 0} (xs : List A) (k : ℕ) (d : A) → length xs ≤ k → get_or xs k d ≡ d
get_or_past [] k d h = refl
get_or_past (x ∷ xs) zero d h = absurd (omega (arith, h))
get_or_past (x ∷ xs) (suc k) d h = get_or_past xs k d (omega (arith, h))

pub get_or_before : {A : Type 0} (xs : List A) (y d : A) (n : ℕ) → n < length xs → get_or (xs ++ y ∷ []) n d ≡ get_or xs n d
get_or_before [] y d n h = absurd (grind (arith, h))
get_or_before (x ∷ xs) y d zero h = refl
get_or_before (x ∷ xs) y d (suc n) h = get_or_before xs y d n (omega (arith, h))

pub get_or_pushed : {A : Type 0} (xs : List A) (y d : A) (n : ℕ) → n ≡ length xs → get_or (xs ++ y ∷ []) n d ≡ y
get_or_pushed [] y d zero h = refl
get_or_pushed [] y d (suc n) h = absurd (grind (arith, h))
get_or_pushed (x ∷ xs) y d zero h = absurd (grind (arith, h))
get_or_pushed (x ∷ xs) y d (suc n) h = get_or_pushed xs y d n (omega (arith, h))

pub get_before : {X : Type 0} (xs ys : List X) (k : ℕ) → k < length xs → slice_get (xs ++ ys) k ≡ slice_get xs k
get_before [] ys k h = absurd (omega arith)
get_before (x ∷ xs) ys zero h = refl
get_before (x ∷ xs) ys (suc k) h = get_before xs ys k (omega arith)

pub get_kept : {X : Type 0} (xs ys : List X) (k : ℕ) (x : X) → slice_get xs k ≡ Some x → slice_get (xs ++ ys) k ≡ Some x
get_kept [] ys k x h = cc
get_kept (a ∷ xs) ys zero x h = h
get_kept (a ∷ xs) ys (suc k) x h = get_kept xs ys k x h

pub get_after : {A : Type 0} (xs ys : List A) (k : ℕ) → slice_get (xs ++ ys) (length xs + k) ≡ slice_get ys k
get_after [] ys k = ap (slice_get ys) (omega arith)
get_after (x ∷ xs) ys k = let same : suc (length xs) + k ≡ suc (length xs + k) = omega arith in ap (slice_get (x ∷ (xs ++ ys))) same ∙ get_after xs ys k

pub get_pushed : {A : Type 0} (xs : List A) (y : A) → slice_get (xs ++ y ∷ []) (length xs) ≡ Some y
get_pushed [] y = refl
get_pushed (x ∷ xs) y = get_pushed xs y

pub get_pushed_at : {X : Type 0} (xs : List X) (y : X) (n : ℕ) → n ≡ length xs → slice_get (xs ++ y ∷ []) n ≡ Some y
get_pushed_at [] y zero h = refl
get_pushed_at [] y (suc n) h = grind (arith, h)
get_pushed_at (x ∷ xs) y zero h = grind (arith, h)
get_pushed_at (x ∷ xs) y (suc n) h = get_pushed_at xs y n (omega (arith, h))

pub get_seam : {A : Type 0} (xs : List A) (y : A) (ys : List A) → slice_get (xs ++ y ∷ ys) (length xs) ≡ Some y
get_seam [] y ys = refl
get_seam (x ∷ xs) y ys = get_seam xs y ys

pub get_map : {A B : Type 0} (f : A → B) (xs : List A) (k : ℕ) → slice_get (map f xs) k ≡ option_map f (slice_get xs k)
get_map f [] k = refl
get_map f (x ∷ xs) zero = refl
get_map f (x ∷ xs) (suc k) = get_map f xs k

pub get_mapped : {A B : Type 0} (f : A → B) (xs : List A) (k : ℕ) (x : A) → slice_get xs k ≡ Some x → slice_get (map f xs) k ≡ Some (f x)
get_mapped f [] k x h = cc
get_mapped f (y ∷ ys) zero x h = ap (option_map f) h
get_mapped f (y ∷ ys) (suc k) x h = get_mapped f ys k x h

pub take_whole : {A : Type 0} (xs : List A) → take (length xs) xs ≡ xs
take_whole [] = refl
take_whole (x ∷ xs) = ap (λ l. x ∷ l) (take_whole xs)

pub take_length : {A : Type 0} (n : ℕ) (xs : List A) → n ≡ length xs → take n xs ≡ xs
take_length n xs h = ap (λ k. take k xs) h ∙ take-length xs

pub take_front : (xs ys : List ℕ) → take (length xs) (xs ++ ys) ≡ xs
take_front [] ys = refl
take_front (x ∷ xs) ys = ap (λ zs. x ∷ zs) (take_front xs ys)

pub drop_front : (xs ys : List ℕ) → drop (length xs) (xs ++ ys) ≡ ys
drop_front [] ys = refl
drop_front (x ∷ xs) ys = drop_front xs ys

pub drop_step : {A : Type 0} (l : List A) (i : ℕ) (d : A) → i < length l → drop i l ≡ get_or l i d ∷ drop (i + 1) l
drop_step l i d below = drop-cons l i d below ∙ rw add-one refl

pub drop_step_at : {X : Type 0} (xs : List X) (i : ℕ) (x : X) → i < length xs → x ≡ get_or xs i x → drop i xs ≡ x ∷ drop (i + 1) xs
drop_step_at xs i x lt e = drop_more xs i x lt ∙ ap (λ y. y ∷ drop (i + 1) xs) (sym e)

pub drop_step_before : {X : Type 0} (xs : List X) (next : ℕ) (x : X) → 0 < next → next - 1 < length xs → x ≡ get_or xs (next - 1) x → drop (next - 1) xs ≡ x ∷ drop next xs
drop_step_before xs next x some within read =
    let same : suc (next - 1) ≡ next = omega arith in
    drop-cons xs (next - 1) x within ∙ ap₂ (λ y n. y ∷ drop n xs) (sym read) same

pub each_pushed : {A : Type 0} (P : ℕ → A → Type 0) (xs : List A) (y : A) → ((k : ℕ) (x : A) → slice_get xs k ≡ Some x → P k x) → P (length xs) y → (k : ℕ) (x : A) → slice_get (xs ++ y ∷ []) k ≡ Some x → P k x
each_pushed P [] y each last zero x e = subst (P 0) (ap (λ o. unwrap_or o y) e) last
each_pushed P [] y each last (suc k) x e = elim (none-some _ e) [ ]
each_pushed P (first ∷ xs) y each last zero x e = each zero x e
each_pushed P (first ∷ xs) y each last (suc k) x e = each_pushed (λ n. P (suc n)) xs y (λ n. each (suc n)) last k x e
