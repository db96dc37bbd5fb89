-- Texts that files hold.
use Rattle.std.proofs.Common.{◌≡◌, ◌∙◌, ℕ, List, [], ◌∷◌, ◌++◌, map, take, refl, sym, subst, Option, Some, None, inl, inr}
use Rattle.pt_base.specs.Files.{Files, HoldsAt, GivesFirst}
use Rattle.pt_base.proofs.Options.{some_same_bytes}
use Rattle.privtrans_app.specs.Held.{AllHeld, AreHeld, AreKnown, IsHeld, IsReached}
use Rattle.privtrans_app.specs.Reading.{AreCutOf, AreFirst}
use Rattle.privtrans_app.specs.Words.{Command, files_of}

-- ---- told files hold one list of texts

same_there : (files : Files) (names xs ys : List (List ℕ)) → AreHeld (Some files) names xs → AreHeld (Some files) names ys → xs ≡ ys
same_there files [] [] [] a b = refl
same_there files [] [] (y ∷ ys) a b = absurd b
same_there files [] (x ∷ xs) ys a b = absurd a
same_there files (name ∷ names) [] ys a b = absurd a
same_there files (name ∷ names) (x ∷ xs) [] a b = absurd b
same_there files (name ∷ names) (x ∷ xs) (y ∷ ys) a b = λ k. some_same_bytes x y (sym a.0 ∙ b.0) k ∷ same_there files names xs ys a.1 b.1 k

pub same_texts : (files : Option Files) (names xs ys : List (List ℕ)) → AreKnown files names xs → AreHeld files names ys → xs ≡ ys
same_texts files [] [] [] a b = refl
same_texts files [] [] (y ∷ ys) a b = absurd b
same_texts files [] (x ∷ xs) ys a b = absurd a.held
same_texts files (name ∷ names) xs ys a b =
    let told = a.are_told (λ none. cc) in
    same_there told.0 (name ∷ names) xs ys (subst (λ (f : Option Files). AreHeld f (name ∷ names) xs) told.1 a.held) (subst (λ (f : Option Files). AreHeld f (name ∷ names) ys) told.1 b)

-- ---- files that are held

held_one : (files : Option Files) (name text : List ℕ) → HoldsAt files name text → IsHeld files name
held_one None name text holds = tt
held_one (Some f) name text holds = (text, holds)

held_all : (files : Option Files) (names texts : List (List ℕ)) → AreHeld files names texts → AllHeld files names
held_all files [] texts held = tt
held_all files (name ∷ names) [] held = absurd held
held_all files (name ∷ names) (text ∷ texts) held = (held_one files name text held.0, held_all files names texts held.1)

held_within : (files : Option Files) (before after : List (List ℕ)) (name : List ℕ) → AllHeld files (before ++ name ∷ after) → IsHeld files name
held_within files [] after name all = all.0
held_within files (other ∷ before) after name all = held_within files before after name all.1

some_none : (x : List ℕ) (o : Option (List ℕ)) → o ≡ Some x → o ≡ None → ⊥
some_none x o a b = cc

-- a file of a command whose files are held isn't lacking
pub not_lacking : (c : Command) (files : Files) (name : List ℕ) (texts : List (List ℕ)) → AreHeld (Some files) (files_of c) texts → IsReached c (Some files) name → files name ≡ None → ⊥
not_lacking c files name texts held reached lacks =
    let all : AllHeld (Some files) (reached.before ++ name ∷ reached.after) = subst (AllHeld (Some files)) reached.are (held_all (Some files) (files_of c) texts held) in
    let there : IsHeld (Some files) name = held_within (Some files) reached.before reached.after name all in
    some_none there.0 (files name) there.1 lacks

-- ---- first bytes

-- the whole texts of which these are the first bytes
pub record Whole (files : Option Files) (names cut : List (List ℕ)) : Type 0 where
  pub texts : List (List ℕ)
  pub held : AreHeld files names texts
  pub cuts : AreCutOf texts cut

untold : (names cut : List (List ℕ)) → AreFirst None names cut → AreHeld None names cut
untold [] [] first = tt
untold [] (x ∷ xs) first = absurd first
untold (name ∷ names) [] first = absurd first
untold (name ∷ names) (x ∷ xs) first = (tt, untold names xs first.1)

-- there are texts that these files hold, of which these are the first bytes
abbrev Has : Files → List (List ℕ) → List (List ℕ) → Type 0
Has files names cut = (texts : List (List ℕ)) × AreHeld (Some files) names texts × (cut ≡ map (take 1048577) texts)

has : (files : Files) (names cut : List (List ℕ)) → AreFirst (Some files) names cut → Has files names cut
has files [] [] first = ([], tt, refl)
has files [] (x ∷ xs) first = absurd first
has files (name ∷ names) [] first = absurd first
has files (name ∷ names) (x ∷ xs) first =
    let rest : Has files names xs = has files names xs first.1 in
    (first.0.0 ∷ rest.0, (first.0.1, rest.1), λ k. first.0.2 k ∷ rest.2 k)

pub whole_of : (files : Option Files) (names cut : List (List ℕ)) → AreFirst files names cut → Whole files names cut
whole_of None names cut first = record { texts = cut; held = untold names cut first; cuts = inl refl }
whole_of (Some files) names cut first = let w : Has files names cut = has files names cut first in record { texts = w.0; held = w.1; cuts = inr w.2 }

-- one file more
pub first_more : (files : Option Files) (names cut : List (List ℕ)) (name text : List ℕ) → AreFirst files names cut → GivesFirst files name 1048577 text → AreFirst files (names ++ name ∷ []) (cut ++ text ∷ [])
first_more files [] [] name text first gives = (gives, tt)
first_more files [] (x ∷ xs) name text first gives = absurd first
first_more files (other ∷ names) [] name text first gives = absurd first
first_more files (other ∷ names) (x ∷ xs) name text first gives = (first.0, first_more files names xs name text first.1 gives)

gives_held : (files : Option Files) (name text : List ℕ) → GivesFirst files name 1048577 text → IsHeld files name
gives_held None name text gives = tt
gives_held (Some f) name text gives = (gives.0, gives.1)

-- files that gave something are held
pub first_held : (files : Option Files) (names cut : List (List ℕ)) → AreFirst files names cut → AllHeld files names
first_held files [] cut first = tt
first_held files (name ∷ names) [] first = absurd first
first_held files (name ∷ names) (x ∷ xs) first = (gives_held files name x first.0, first_held files names xs first.1)
