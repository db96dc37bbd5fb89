-- Writing the items of a list one behind the other, as a loop does.
use Rattle.std.proofs.Common.{◌≡◌, ℕ, ◌+◌, ◌<◌, ◌≤◌, List, [], ◌∷◌, ◌++◌, length, get_or, drop, refl, sym, ap, subst, ◌∙◌, append_assoc}
use Rattle.std.specs.Prelude.{Result, Ok, Err, OnOk, is_ok, cond}
use Rattle.std.specs.declared.alloc.AllocError.{AllocError}
use Rattle.std.specs.List.{flat_map, AllByRecursion}
use Rattle.std.proofs.lemmas.List.{append-nil, drop_more, drop_all}

-- with what is left, all is put, and all fit if what is left does
pub record Putting {A : Type 0} (spelled : A → List ℕ) (Fits : A → Type 0) (all left : List A) (before now : List ℕ) : Type 0 where
  pub bytes : now ++ flat_map spelled left ≡ before ++ flat_map spelled all
  pub fits : AllByRecursion Fits left → AllByRecursion Fits all

pub putting_start : {A : Type 0} (spelled : A → List ℕ) (Fits : A → Type 0) (all : List A) (before : List ℕ) → Putting spelled Fits all all before before
putting_start spelled Fits all before = record { bytes = refl; fits = λ h. h }

pub putting_step : {A : Type 0} (spelled : A → List ℕ) (Fits : A → Type 0) (all xs : List A) (i : ℕ) (x : A) (before now after : List ℕ) → i < length xs → x ≡ get_or xs i x
    → Putting spelled Fits all (drop i xs) before now → after ≡ now ++ spelled x → Fits x → Putting spelled Fits all (drop (i + 1) xs) before after
putting_step spelled Fits all xs i x before now after lt is so_far added fits =
    let here : drop i xs ≡ x ∷ drop (i + 1) xs = drop_more xs i x lt ∙ ap (λ y. y ∷ drop (i + 1) xs) (sym is) in
    let left = subst (λ left. Putting spelled Fits all left before now) here so_far in
    record {
      bytes = ap (λ ys. ys ++ flat_map spelled (drop (i + 1) xs)) added ∙ append_assoc now (spelled x) (flat_map spelled (drop (i + 1) xs)) ∙ left.bytes;
      fits = λ h. left.fits (fits, h);
    }

pub putting_done : {A : Type 0} (spelled : A → List ℕ) (Fits : A → Type 0) (all xs : List A) (i : ℕ) (before now : List ℕ) → length xs ≤ i
    → Putting spelled Fits all (drop i xs) before now → (now ≡ before ++ flat_map spelled all) × AllByRecursion Fits all
putting_done spelled Fits all xs i before now le so_far =
    let none : drop i xs ≡ [] = drop_all i xs le in
    let left = subst (λ left. Putting spelled Fits all left before now) none so_far in
    (sym (append-nil now) ∙ left.bytes, left.fits tt)

-- a slice was appended where there was memory
pub added : (r : Result (Unit {0}) AllocError) (new old more bytes : List ℕ) → new ≡ cond (is_ok r) (old ++ more) old → more ≡ bytes → OnOk r (new ≡ old ++ bytes)
added (Ok u) new old more bytes e same = e ∙ ap (λ x. old ++ x) same
added (Err f) new old more bytes e same = tt
