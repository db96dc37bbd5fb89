-- What bytes are taken as.
use Rattle.std.specs.Prelude.{◌≡◌, ℕ, List, Result, Ok, Err, IsTrue, false}
use Rattle.host_models.specs.Fitting.{fits}
use Rattle.pt_core.specs.declared.boot.Boot.{Boot}
use Rattle.pt_core.specs.CodeTree.{BootTree, view_boot}
use Rattle.pt_core.specs.WellFormed.{is_well_formed_boot}
use Rattle.boots.specs.declared.fault.BootError.{BootError}
use Rattle.boots.specs.declared.fault.BootError.TheVariants as error
use Rattle.boot_fields.specs.Limits.{Spells}

-- the boot that the bytes spell, which is well formed; a bad one where they spell none that is
abbrev pub IsGoodBootOf : List ℕ → Result Boot BootError → Type 0
IsGoodBootOf bytes (Ok b) = Spells (view_boot b) bytes × IsTrue (is_well_formed_boot fits (view_boot b))
IsGoodBootOf bytes (Err error.BadBoot) = (b : BootTree) → Spells b bytes → is_well_formed_boot fits b ≡ false
IsGoodBootOf bytes (Err error.Memory) = Unit {0}
