-- Which slave and which queue a half of code is.
use Rattle.std.specs.Prelude.{◌≡◌, ◌<◌, ◌++◌, ℕ, Bool, true, false, [], Option}
use Rattle.wire.specs.declared.message.Message.{Message}
use Rattle.pair_protocol.specs.Sides.{going}
use Rattle.pair_protocol.specs.SlaveRun.{came, listed, slave_at}
use Rattle.pair_protocol.specs.Links.{Half, half}
use Rattle.pair_meaning.specs.Pair.{the_sides}
use Rattle.pair_meaning.specs.SlaveRun as s
use Rattle.slave_interp.specs.declared.slave.Slave.{Slave}
use Rattle.slave_interp.specs.Slaves.{IsSlave}
use Rattle.memory_link.specs.declared.slave_half.SlaveHalf.{SlaveHalf}
pub use Rattle.pair_protocol.specs.Sides.{is_waiting}

-- where it refused a reply it is over
abbrev pub IsHeld : Bool → Slave → s.Slave → Type 0
IsHeld false x y = IsSlave x y
IsHeld true x y = (from : s.Slave) × IsSlave x from × (y ≡ record from { doing = s.is_over })

pub record IsHalf (x : SlaveHalf) (h : Half s.Slave Message) : Type 0 where
  pub slave : IsHeld x.refused x.slave h.slave
  pub queue : x.queue.items ≡ h.queue

-- it goes on, nothing waits, and there is room for a message
pub record MovesAlone (window : ℕ) (h : Half s.Slave Message) : Type 0 where
  pub goes : s.mode_of h.slave ≡ going
  pub none : h.queue ≡ []
  pub room : 0 < window

-- so many steps lead to this half, of which the last alone said something, if it did
pub record HasRunTo (made : ℕ) (h : Half s.Slave Message) (x : SlaveHalf) : Type 0 where
  pub to : s.Slave
  pub said : Option Message
  pub there : IsHalf x (half to (h.queue ++ listed said))
  pub came_to : slave_at the_sides made h.slave [] ≡ came to (listed said) [] made
  pub quiet : (j : ℕ) → j < made → (slave_at the_sides j h.slave []).said ≡ []
