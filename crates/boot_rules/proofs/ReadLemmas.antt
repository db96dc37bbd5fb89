-- What is read and isn't well formed.
use Rattle.std.proofs.Common.{◌≡◌, ◌∙◌, ap, ℕ, List, false, Err}
use Rattle.host_models.specs.Fitting.{fits}
use Rattle.pt_core.specs.declared.boot.Boot.{Boot}
use Rattle.pt_core.specs.CodeTree.{view_boot}
use Rattle.pt_core.specs.WellFormed.{is_well_formed_boot}
use Rattle.boots.specs.declared.fault.BootError.{BootError}
use Rattle.boots.specs.declared.fault.BootError.TheVariants as error
use Rattle.boot_fields.specs.Limits.{Spells}
use Rattle.boots.specs.WholeReading.{IsBootOf}
use Rattle.boots.proofs.BootLaws.{one_reading}
use Rattle.boot_rules.specs.Answers.{IsGoodBootOf}

-- bytes that spell no boot spell no good one
pub still_bad : (bytes : List ℕ) (e : BootError) → IsBootOf bytes (Err e) → IsGoodBootOf bytes (Err e)
still_bad bytes error.BadBoot h = λ b spells. absurd (h b spells)
still_bad bytes error.Memory h = tt

-- nor do those that spell another
pub not_good : (bytes : List ℕ) (boot : Boot) → Spells (view_boot boot) bytes → is_well_formed_boot fits (view_boot boot) ≡ false → IsGoodBootOf bytes (Err error.BadBoot)
not_good bytes boot spelled fails = λ b spells. ap (is_well_formed_boot fits) (one_reading b (view_boot boot) bytes spells spelled) ∙ fails
