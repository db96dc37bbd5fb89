-- The run of both halves under the answers that were taken from a chooser.
use Rattle.std.specs.Prelude.{ℕ, List, Option}
use Rattle.pt_base.specs.declared.chooser.Who as base
use Rattle.pt_base.specs.declared.end.End.{End}
use Rattle.pt_core.specs.CodeTree.{BootTree}
use Rattle.pair_meaning.specs.LinkChoosing.{AreTaken}
use Rattle.pair_protocol.specs.Pair.{Who}
use Rattle.pair_meaning.specs.Monitors.{Monitor}
use Rattle.pair_meaning.specs.Pair.{IsWhole}
use Rattle.monitor_interp.specs.Gates.{hosts_for}
use Rattle.pair_laws.specs.BegunPairsLaws.{with_hosts}
use Rattle.pair_texts.specs.Start.{AreStarted, Texts}

-- the monitor with its own hosts alone, which are those that its program has signatures of
abbrev pub alone : Monitor → Monitor
alone m = with_hosts (hosts_for m.program m.hosts) m

-- The chooser told the first answers and tells the others still, and so many were taken between. Under them, with this window, the steps
-- of the slave and the monitor of these texts come to their end with the last answer and not before, and these bytes are written.
pub record HasWhole (t : Texts) (turns window : ℕ) (told told' : Option (ℕ → base.Who)) (bytes : List ℕ) : Type 0 where
  pub boot : BootTree
  pub monitor : Monitor
  pub started : AreStarted t turns boot monitor
  pub answers : List Who
  pub taken : AreTaken answers told told'
  pub end : End
  pub whole : IsWhole boot (alone monitor) window answers bytes end
