-- The rules for what a slave is sent, and where it stops.
use Rattle.std.specs.Prelude.{ℕ}

-- The rules, each named for what breaks it.
pub data ParentRule : Type 0 where
  -- a frame over the limit
  too_long : ParentRule
  -- what stands before the empty piece is no pieces, or they spell no well-formed boot
  bad_boot : ParentRule
  -- a frame that answers a call is no reply, or none that the call can have
  bad_reply : ParentRule

-- the numbers of the rules
abbrev pub number_of_rule : ParentRule → ℕ
number_of_rule too_long = 2
number_of_rule bad_boot = 11
number_of_rule bad_reply = 12

-- the slave has said its last; it would read more; or a rule is broken by the frame at this place
pub data Stopped : Type 0 where
  has_ended : Stopped
  still_open : Stopped
  at_rule : ParentRule → ℕ → Stopped
