-- The files of the words as they are read.
use Rattle.std.specs.Prelude.{◌≡◌, ◌⊎◌, ℕ, List, [], ◌∷◌, ◌++◌, ⊤, Option, map, take}
use Rattle.pt_base.specs.Faults.{Rose}
use Rattle.pt_base.specs.Files.{Files, Lacks, GivesFirst}
use Rattle.privtrans_app.specs.Ending.{Ending, told, usage, missing, read_fault, write_fault, link_fault, bad_peer, peer_ended, memory}
use Rattle.privtrans_app.specs.Held.{AllHeld}

-- these are the first bytes of each file, one more than a text may have
abbrev pub AreFirst : Option Files → List (List ℕ) → List (List ℕ) → Type 0
AreFirst files [] [] = ⊤
AreFirst files [] (text ∷ texts) = ⊥
AreFirst files (name ∷ names) [] = ⊥
AreFirst files (name ∷ names) (text ∷ texts) = GivesFirst files name 1048577 text × AreFirst files names texts

-- these are the texts, or the first bytes of each
abbrev pub AreCutOf : List (List ℕ) → List (List ℕ) → Type 0
AreCutOf whole texts = (texts ≡ whole) ⊎ (texts ≡ map (take 1048577) whole)

-- why the file of this name wasn't read
abbrev pub IsReadRefusal : List ℕ → Option Files → ℕ → ℕ → Ending → Type 0
IsReadRefusal name files reads reads' (told report status) = ⊥
IsReadRefusal name files reads reads' usage = ⊥
IsReadRefusal name files reads reads' (missing n) = (n ≡ name) × (Lacks files name ⊎ Rose reads reads')
IsReadRefusal name files reads reads' (read_fault n) = (n ≡ name) × Rose reads reads'
IsReadRefusal name files reads reads' write_fault = ⊥
IsReadRefusal name files reads reads' link_fault = ⊥
IsReadRefusal name files reads reads' (bad_peer rule offset) = ⊥
IsReadRefusal name files reads reads' peer_ended = ⊥
IsReadRefusal name files reads reads' memory = ⊤

-- why one of the files of these names wasn't read, where those before it are held; or memory was wanting
pub record IsRefusal (names : List (List ℕ)) (files : Option Files) (reads reads' : ℕ) (e : Ending) : Type 0 where
  pub before : List (List ℕ)
  pub name : List ℕ
  pub after : List (List ℕ)
  pub are : names ≡ before ++ name ∷ after
  pub held : AllHeld files before
  pub is : IsReadRefusal name files reads reads' e
