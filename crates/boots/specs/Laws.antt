-- The laws of spellings.
use Rattle.std.specs.Prelude.{◌≡◌, List, [], ◌++◌, ℕ}
use Rattle.pt_core.specs.CodeTree.{BootTree}
use Rattle.boot_fields.specs.Limits.{FitsTypes, Spells}

-- a boot whose numbers are those of its fields' types is spelled in exactly one way, any other in none
pub record OneSpelling (b : BootTree) : Type 0 where
  pub some : FitsTypes b → (bytes : List ℕ) × Spells b bytes
  pub only : (x y : List ℕ) → Spells b x → Spells b y → x ≡ y
  pub none : (x : List ℕ) → Spells b x → FitsTypes b

abbrev pub EachHasOneSpelling : Type 0
EachHasOneSpelling = (b : BootTree) → OneSpelling b

-- two boots with one spelling are one boot
abbrev pub EachHasOneReading : Type 0
EachHasOneReading = (a b : BootTree) (bytes : List ℕ) → Spells a bytes → Spells b bytes → a ≡ b

-- where a spelling begins another, they are the same
abbrev pub NoneBeginsAnother : Type 0
NoneBeginsAnother = (a b : BootTree) (bytes more : List ℕ) → Spells a bytes → Spells b (bytes ++ more) → more ≡ []
