-- What is handed over under the answers of a chooser.
use Rattle.std.specs.Prelude.{◌≡◌, ℕ, List, ◌++◌, length, Option}
use Rattle.pt_base.specs.declared.chooser.Who as base
use Rattle.wire.specs.declared.message.Message.{Message}
use Rattle.pair_protocol.specs.Links.{Half, Hands}
use Rattle.pair_protocol.specs.Pair.{Who}
use Rattle.pair_meaning.specs.Pair.{the_sides}
use Rattle.pair_meaning.specs.SlaveRun.{Slave}
use Rattle.pair_meaning.specs.LinkChoosing.{AreTaken}
use Rattle.memory_link.specs.declared.slave_half.SlaveHalf.{SlaveHalf}
use Rattle.memory_link.specs.Halves.{IsHalf}

-- so many answers were taken
pub record Asked (times : ℕ) (a b : Option (ℕ → base.Who)) : Type 0 where
  pub under : List Who
  pub many : length under ≡ times
  pub taken : AreTaken under a b

-- what is handed over from the second half is handed over from the first one, under more answers before
abbrev pub Leads : ℕ → List Who → Half Slave Message → Half Slave Message → Type 0
Leads window so h at = (answers : List Who) (said : Option Message) (end : Half Slave Message) → Hands the_sides window answers at said end → Hands the_sides window (so ++ answers) h said end

-- under these answers, which were taken, it came from there to here and handed nothing over
pub record Onward (window : ℕ) (start now : SlaveHalf) (a b : Option (ℕ → base.Who)) : Type 0 where
  pub so : List Who
  pub taken : AreTaken so a b
  pub leads : (h : Half Slave Message) → IsHalf start h → (at : Half Slave Message) × IsHalf now at × Leads window so h at

-- under these answers, which were taken, this was handed over
pub record HandsOver (window : ℕ) (start : SlaveHalf) (said : Option Message) (now : SlaveHalf) (a b : Option (ℕ → base.Who)) : Type 0 where
  pub under : List Who
  pub taken : AreTaken under a b
  pub hands : (h : Half Slave Message) → IsHalf start h → (end : Half Slave Message) × IsHalf now end × Hands the_sides window under h said end
