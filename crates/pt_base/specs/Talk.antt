-- What goes over a link.
use Rattle.std.specs.Prelude.{ℕ, List}

-- the peer gave these bytes, or took these
pub data Event : Type 0 where
  gave : List ℕ → Event
  took : List ℕ → Event
