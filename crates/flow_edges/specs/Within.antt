-- Edges between so many slots.
use Rattle.std.specs.Prelude.{ℕ, Bool, ◌&&◌, nat_lt}
use Rattle.pt_base.specs.declared.slot.Edge.{Edge}

-- both ends are numbered below this
abbrev pub is_within : ℕ → Edge → Bool
is_within slots e = nat_lt e.from.0 slots && nat_lt e.to.0 slots
