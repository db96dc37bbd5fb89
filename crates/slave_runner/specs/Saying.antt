-- What a slave says, gathered.
use Rattle.std.specs.Prelude.{◌≡◌, ◌≤◌, ℕ, List, [], ◌∷◌, ◌++◌, Option}
use Rattle.pt_base.specs.Talk.{Event, took}
use Rattle.wire.specs.declared.message.Message.{Message}
use Rattle.pair_protocol.specs.Sides.{going}
use Rattle.pair_protocol.specs.SlaveRun.{came, listed, slave_at}
use Rattle.pair_meaning.specs.SlaveRun.{Slave, mode_of}
use Rattle.pair_meaning.specs.Pair.{the_sides}
use Rattle.slave_runner.specs.Comes.{spellings}

-- these bytes are sent, where there are any
abbrev pub sending : List ℕ → List Event
sending [] = []
sending (b ∷ bytes) = took (b ∷ bytes) ∷ []

-- of what waits then, the first bytes were sent
pub record Gathered (talks : List Event → Type 0) (all after : List ℕ) : Type 0 where
  pub bytes : List ℕ
  pub talked : talks (sending bytes)
  pub waits : bytes ++ after ≡ all

-- The slave went on to this one, and what it said waits behind what waited, but for the first bytes, which were sent.
pub record WentOn (talks : List Event → Type 0) (is : Slave → Type 0) (x : Slave) (before after : List ℕ) : Type 0 where
  pub made : ℕ
  pub said : Option Message
  pub to : Slave
  pub there : is to
  pub came_to : slave_at the_sides made x [] ≡ came to (listed said) [] made
  pub some : mode_of x ≡ going → 1 ≤ made
  pub gathered : Gathered talks (before ++ spellings (listed said)) after

-- It went on, and of what waits then a first part was sent.
pub record BrokeOff (part : List ℕ → Type 0) (x : Slave) (before : List ℕ) : Type 0 where
  pub made : ℕ
  pub said : Option Message
  pub to : Slave
  pub came_to : slave_at the_sides made x [] ≡ came to (listed said) [] made
  pub sent : part (before ++ spellings (listed said))
