-- Counts of faults.
use Rattle.std.specs.Prelude.{◌≡◌, ◌⊎◌, ℕ, suc, ◌-◌, ◌^◌, ◌<◌, ◌≤◌, Result, IsErrOf, OnOk}

-- a count of faults went up, or stands at the last value that it can have
abbrev pub Rose : ℕ → ℕ → Type 0
Rose before now = (before < now) ⊎ (2 ^ 64 - 1 ≤ before)

-- a count never falls, rises by one at most and not at all where this ends well or memory is wanting,
-- and the fault of the outside comes only where it rose
pub record HasCause {T E : Type 0} (before now : ℕ) (result : Result T E) (failed wanting : E) : Type 0 where
  pub later : before ≤ now
  pub once : now ≤ suc before
  pub stays : OnOk result (now ≡ before)
  pub memory : IsErrOf result wanting → now ≡ before
  pub cause : IsErrOf result failed → Rose before now
