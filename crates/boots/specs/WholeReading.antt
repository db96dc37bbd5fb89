-- What bytes are read as.
use Rattle.std.specs.Prelude.{ℕ, List, Result, Ok, Err}
use Rattle.pt_core.specs.declared.boot.Boot.{Boot}
use Rattle.pt_core.specs.CodeTree.{BootTree, view_boot}
use Rattle.boots.specs.declared.fault.BootError.{BootError}
use Rattle.boots.specs.declared.fault.BootError.TheVariants as error
use Rattle.boot_fields.specs.Limits.{Spells}

-- the boot that the bytes spell; a bad one where they spell none
abbrev pub IsBootOf : List ℕ → Result Boot BootError → Type 0
IsBootOf bytes (Ok b) = Spells (view_boot b) bytes
IsBootOf bytes (Err error.BadBoot) = (b : BootTree) → Spells b bytes → ⊥
IsBootOf bytes (Err error.Memory) = Unit {0}
