-- Two programs that are the halves of a whole one.
use Rattle.std.specs.Prelude.{◌≡◌, ℕ, Bool, true, false, not, ◌&&◌, ◌||◌, Some, IsTrue, is_some, nat_eq}
use Rattle.std.specs.Map.{lookup}
use Rattle.pt_tree.specs.declared.signature.Signature.{Signature}
use Rattle.host_models.specs.Mixed.{is_mixed}
use Rattle.pt_core.specs.CodeTree.{ProgramTree, MonitorTree}
use Rattle.pt_core.specs.Calls.{signature_in}
use Rattle.pt_core.specs.CoreRun.{main_in}
use Rattle.pt_core.specs.WellFormed.{function_at, is_sound, monitor_program}
use Rattle.core_soundness_law.specs.Outside.{own_params}
use Rattle.part_views_law.specs.Views.{has_global}
use Rattle.part_views_law.specs.StepsParts.{HasSignature, IsPart}
use Rattle.pair_meaning.specs.Monitors.{entries_in}

-- what a slave may ask for: what is privileged, and mixed hosts
abbrev pub is_asked_for : Signature → Bool
is_asked_for s = s.privileged || (s.host && is_mixed s)

-- a host that the slave makes its own calls of
abbrev pub is_own_host : Signature → Bool
is_own_host s = s.host && not s.privileged

-- The slave and the monitor are sound parts of the whole and share no global. Whatever a half has a signature for has the whole's.
-- What the slave calls it has itself, makes here, or may ask for; what it may ask for is an entry of the monitor's, with the same
-- signature, and if it is no host a function of its own whose parameters are all its own. The whole begins where the slave does.
pub record AreHalvesOf (whole slave : ProgramTree) (monitor : MonitorTree) : Type 0 where
  pub slave_sound : IsTrue (is_sound false slave)
  pub monitor_sound : IsTrue (is_sound true (monitor_program monitor))
  pub slave_part : IsPart slave whole
  pub monitor_part : IsPart (monitor_program monitor) whole
  pub apart : (g : ℕ) → has_global (monitor_program monitor) g ≡ true → has_global slave g ≡ false
  pub slave_signatures : (f : ℕ) → HasSignature slave f → signature_in whole f ≡ signature_in slave f
  pub monitor_signatures : (f : ℕ) → HasSignature (monitor_program monitor) f → signature_in whole f ≡ signature_in (monitor_program monitor) f
  pub slave_own : (f : ℕ) → HasSignature slave f → (signature_in slave f).host ≡ false → (signature_in slave f).privileged ≡ false → IsTrue (is_some (function_at slave f))
  pub monitor_own : (f : ℕ) → HasSignature (monitor_program monitor) f → (signature_in (monitor_program monitor) f).host ≡ false → IsTrue (is_some (function_at (monitor_program monitor) f))
  pub entries : (f : ℕ) → HasSignature slave f → is_asked_for (signature_in slave f) ≡ true → lookup (nat_eq f) (entries_in monitor) ≡ Some (signature_in slave f)
  pub signed : (f : ℕ) → HasSignature slave f → is_asked_for (signature_in slave f) ≡ true → HasSignature (monitor_program monitor) f
  pub params : (f : ℕ) → HasSignature slave f → is_asked_for (signature_in slave f) ≡ true → (signature_in slave f).host ≡ false →
      own_params (monitor_program monitor) f ≡ (signature_in slave f).params
  -- a monitor's function calls no host that the slave alone calls
  pub hosts : (f : ℕ) → HasSignature (monitor_program monitor) f → (signature_in (monitor_program monitor) f).host ≡ true → is_asked_for (signature_in (monitor_program monitor) f) ≡ true
  pub begins : main_in whole ≡ main_in slave
  pub starts : IsTrue (is_some (function_at slave (main_in slave)))
