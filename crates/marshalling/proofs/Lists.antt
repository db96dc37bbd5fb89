-- Steps along lists.
use Rattle.std.proofs.Common.{◌≡◌, ◌<◌, ◌+◌, ◌∙◌, sym, ap, refl, ℕ, zero, suc, Bool, true, false, List, [], ◌∷◌, length, drop, get_or, arith, Some}
use Rattle.std.specs.Prelude.{◌&&◌, slice_get}
use Rattle.std.specs.List.{list_all}
use Rattle.std.proofs.lemmas.List.{drop_more, get_or_default}
use Rattle.pt_base.proofs.Booleans.{and_true_first, and_true_second}

pub and_assoc : (a b c : Bool) → (a && b && c) ≡ (a && (b && c))
and_assoc true b c = refl
and_assoc false b c = refl

-- what holds of all holds of each
pub all_at : {X : Type 0} (test : X → Bool) (xs : List X) (i : ℕ) (x : X) → list_all test xs ≡ true → i < length xs → x ≡ get_or xs i x → test x ≡ true
all_at test [] i x h lt e = absurd (omega arith)
all_at test (y ∷ xs) zero x h lt e = ap test e ∙ and_true_first (test y) (list_all test xs) h
all_at test (y ∷ xs) (suc i) x h lt e = all_at test xs i x (and_true_second (test y) (list_all test xs) h) (omega arith) e

-- a function of what is left of a list, one step on
pub at_drop : {X Y : Type 0} (F : List X → Y) (xs : List X) (i : ℕ) (x : X) → i < length xs → x ≡ get_or xs i x
    → F (drop i xs) ≡ F (x ∷ drop (i + 1) xs)
at_drop F xs i x lt e = ap F (drop_more xs i x lt ∙ ap (λ y. y ∷ drop (i + 1) xs) (sym e))

-- the same of two lists
pub at_drops : {X Y Z : Type 0} (F : List X → List Y → Z) (xs : List X) (ys : List Y) (i : ℕ) (x : X) (y : Y) → i < length xs → i < length ys
    → x ≡ get_or xs i x → y ≡ get_or ys i y
    → F (drop i xs) (drop i ys) ≡ F (x ∷ drop (i + 1) xs) (y ∷ drop (i + 1) ys)
at_drops F xs ys i x y lx ly ex ey = at_drop (λ zs. F zs (drop i ys)) xs i x lx ex ∙ at_drop (F (x ∷ drop (i + 1) xs)) ys i y ly ey

-- the element at a place
pub get_at : {X : Type 0} (xs : List X) (i : ℕ) (x : X) → i < length xs → x ≡ get_or xs i x → slice_get xs i ≡ Some x
get_at [] i x lt e = absurd (omega arith)
get_at (y ∷ xs) zero x lt e = ap Some (sym e)
get_at (y ∷ xs) (suc i) x lt e = get_at xs i x (omega arith) e

-- what is read at a place is there
pub self_read : {X : Type 0} (xs : List X) (i : ℕ) (d : X) → i < length xs → get_or xs i d ≡ get_or xs i (get_or xs i d)
self_read xs i d lt = get_or_default xs i d (get_or xs i d) lt
