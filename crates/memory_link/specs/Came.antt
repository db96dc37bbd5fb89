-- Where a link in memory came from.
use Rattle.std.specs.Prelude.{◌≡◌, ℕ, false, List, Option}
use Rattle.pt_base.specs.Talk.{Event}
use Rattle.pt_base.specs.declared.chooser.Who as base
use Rattle.pair_protocol.specs.Pair.{Who}
use Rattle.pair_meaning.specs.LinkChoosing.{AreTaken}
use Rattle.pair_meaning.specs.LinkTalks.{Side, Runs}
use Rattle.memory_link.specs.declared.link.MemoryLink.{MemoryLink}
use Rattle.memory_link.specs.Ends.{IsEnd}

-- it is this side, and memory was never wanting
pub record IsLink {C : Type 0} (l : MemoryLink C) (s : Side) : Type 0 where
  pub sound : l.lost ≡ false
  pub end : IsEnd l.end s

-- Under a list of answers, the first of those that the chooser told, whatever side the one link is leads by this talk to a side
-- that the other is.
pub record Came {C : Type 0} (answers : C → Option (ℕ → base.Who)) (a : MemoryLink C) (talk : List Event) (b : MemoryLink C) : Type 0 where
  pub window : b.window ≡ a.window
  pub same_reference : b.chooser.ghost_name ≡ a.chooser.ghost_name
  pub under : List Who
  pub taken : AreTaken under (answers a.chooser.now) (answers b.chooser.now)
  pub runs : (s : Side) → IsLink a s → (s' : Side) × IsLink b s' × Runs a.window under s talk s'
