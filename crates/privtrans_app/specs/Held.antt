-- The files that a command reads.
use Rattle.std.specs.Prelude.{◌≡◌, ◌≢◌, ℕ, List, [], ◌∷◌, ◌++◌, ⊤, Option, Some, None}
use Rattle.pt_base.specs.Files.{Files, HoldsAt}
use Rattle.privtrans_app.specs.Words.{Command, files_of}

-- a file of this name is held, where that is told
abbrev pub IsHeld : Option Files → List ℕ → Type 0
IsHeld None name = ⊤
IsHeld (Some files) name = (bytes : List ℕ) × (files name ≡ Some bytes)

-- files of all these names are held
abbrev pub AllHeld : Option Files → List (List ℕ) → Type 0
AllHeld files [] = ⊤
AllHeld files (name ∷ names) = IsHeld files name × AllHeld files names

-- the name is that of one of the command's files, and those that are read before it are held
pub record IsReached (c : Command) (files : Option Files) (name : List ℕ) : Type 0 where
  pub before : List (List ℕ)
  pub after : List (List ℕ)
  pub are : files_of c ≡ before ++ name ∷ after
  pub held : AllHeld files before

-- the files of these names hold these texts, one each, where that is told
abbrev pub AreHeld : Option Files → List (List ℕ) → List (List ℕ) → Type 0
AreHeld files [] [] = ⊤
AreHeld files [] (text ∷ texts) = ⊥
AreHeld files (name ∷ names) [] = ⊥
AreHeld files (name ∷ names) (text ∷ texts) = HoldsAt files name text × AreHeld files names texts

-- they are told and hold these texts; where there are no names, nothing has to be told
pub record AreKnown (files : Option Files) (names texts : List (List ℕ)) : Type 0 where
  pub are_told : names ≢ [] → (told : Files) × (files ≡ Some told)
  pub held : AreHeld files names texts
