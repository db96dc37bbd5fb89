-- Files that are read one after the other.
use Rattle.std.proofs.Common.{◌≤◌, ◌∙◌, ◌⊎◌, ℕ, List, Option, Some, None, refl, sym, inl, inr, arith}
use Rattle.pt_base.specs.Faults.{Rose}
use Rattle.pt_base.specs.Files.{Files, SameFiles, GivesFirst, Lacks}
use Rattle.privtrans_app.specs.Ending.{Ending, told, usage, missing, read_fault, write_fault, link_fault, bad_peer, peer_ended, memory}
use Rattle.privtrans_app.specs.Reading.{IsReadRefusal}

pub same_refl : (a : Option Files) → SameFiles a a
same_refl None = tt
same_refl (Some f) = λ name. refl

pub same_trans : (a b c : Option Files) → SameFiles a b → SameFiles b c → SameFiles a c
same_trans None b c x y = tt
same_trans (Some f) None c x y = absurd x
same_trans (Some f) (Some g) None x y = absurd y
same_trans (Some f) (Some g) (Some h) x y = λ name. y name ∙ x name

-- what a file gives that stayed as it was
pub gives_same : (a b : Option Files) (name : List ℕ) (n : ℕ) (bytes : List ℕ) → SameFiles a b → GivesFirst b name n bytes → GivesFirst a name n bytes
gives_same None b name n bytes same gives = tt
gives_same (Some f) None name n bytes same gives = absurd same
gives_same (Some f) (Some g) name n bytes same gives = (gives.0, sym (same name) ∙ gives.1, gives.2)

-- a count that rose behind the middle rose in all
pub rose_since : (r0 r1 r2 : ℕ) → r0 ≤ r1 → r1 ≤ r2 → Rose r1 r2 → Rose r0 r2
rose_since r0 r1 r2 a b rose = grind arith

lacks_since : (a b : Option Files) (name : List ℕ) → SameFiles a b → Lacks b name → Lacks a name
lacks_since None b name same lacks = tt
lacks_since (Some f) None name same lacks = absurd same
lacks_since (Some f) (Some g) name same lacks = sym (same name) ∙ lacks

-- why a file wasn't read, told from before others were read
pub refusal_since : (a b : Option Files) (name : List ℕ) (r0 r1 r2 : ℕ) (e : Ending) → SameFiles a b → r0 ≤ r1 → r1 ≤ r2 → IsReadRefusal name b r1 r2 e → IsReadRefusal name a r0 r2 e
refusal_since a b name r0 r1 r2 (told report status) same x y is = absurd is
refusal_since a b name r0 r1 r2 usage same x y is = absurd is
refusal_since a b name r0 r1 r2 (missing n) same x y is = (is.0, either is.1)
  where
    either : Lacks b name ⊎ Rose r1 r2 → Lacks a name ⊎ Rose r0 r2
    either (inl lacks) = inl (lacks_since a b name same lacks)
    either (inr rose) = inr (rose_since r0 r1 r2 x y rose)
refusal_since a b name r0 r1 r2 (read_fault n) same x y is = (is.0, rose_since r0 r1 r2 x y is.1)
refusal_since a b name r0 r1 r2 write_fault same x y is = absurd is
refusal_since a b name r0 r1 r2 link_fault same x y is = absurd is
refusal_since a b name r0 r1 r2 (bad_peer rule offset) same x y is = absurd is
refusal_since a b name r0 r1 r2 peer_ended same x y is = absurd is
refusal_since a b name r0 r1 r2 memory same x y is = tt
