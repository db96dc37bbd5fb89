-- Sessions by the place at which they stand.
use Rattle.std.specs.Prelude.{◌≡◌, ℕ, List, Bool, true, false, slice_get, slice_set, remove, Option, Some, None}
use Rattle.pair_meaning.specs.Monitors.{Monitor}
use Rattle.monitor_interp.specs.declared.handled.Handled.{Handled}
use Rattle.monitor_interp.specs.declared.handled.Handled.TheVariants.{GoesOn, Ended, Bad}
use Rattle.monitor_interp.specs.declared.seat.Seat.{Seat}

-- the session of this number stands at this place
pub record StandsAt (seats : List (ℕ × Seat)) (s place : ℕ) : Type 0 where
  pub seat : Seat
  pub stands : slice_get seats place ≡ Some (s, seat)

-- the session at this place, which has this number, has this monitor from now on, or is closed
abbrev pub left_at : ℕ → ℕ → Option Monitor → List (ℕ × Monitor) → List (ℕ × Monitor)
left_at place s None ms = remove ms place
left_at place s (Some m) ms = slice_set ms place (s, m)

-- behind this answer the session is closed
abbrev pub is_over : Handled → Bool
is_over (GoesOn reply) = false
is_over (Ended end) = true
is_over (Bad rule) = true
