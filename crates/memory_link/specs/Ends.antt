-- Which side of a talk a slave's end of a link is.
use Rattle.std.specs.Prelude.{◌≡◌, ℕ, List, Option}
use Rattle.pt_base.specs.declared.chooser.Who as base
use Rattle.pair_protocol.specs.Pair.{Who}
use Rattle.pair_meaning.specs.LinkChoosing.{AreTaken}
use Rattle.pair_meaning.specs.LinkTalks.{Side, Gives}
use Rattle.memory_link.specs.declared.slave_end.SlaveEnd.{SlaveEnd}
use Rattle.memory_link.specs.Halves.{IsHalf}
use Rattle.memory_link.specs.Reading.{IsReading}

pub record IsEnd (x : SlaveEnd) (s : Side) : Type 0 where
  pub half : IsHalf x.half s.slave_half
  pub rest : x.rest ≡ s.rest
  pub reading : IsReading x.reader
  pub unread : x.reader.unread ≡ s.unread

-- under these answers, which were taken, it gave these bytes
pub record HasGiven (window : ℕ) (start : SlaveEnd) (piece : List ℕ) (now : SlaveEnd) (a b : Option (ℕ → base.Who)) : Type 0 where
  pub under : List Who
  pub taken : AreTaken under a b
  pub gives : (s : Side) → IsEnd start s → (s' : Side) × IsEnd now s' × Gives window under s piece s'
