-- What both halves come to, as they run.
use Rattle.std.specs.Prelude.{◌≡◌, ◌<◌, ℕ, List, All, Option}
use Rattle.pt_base.specs.declared.chooser.Who as base
use Rattle.pt_base.specs.declared.end.End.{End}
use Rattle.pt_core.specs.CodeTree.{view_boot}
use Rattle.pair_meaning.specs.LinkChoosing.{AreTaken}
use Rattle.pair_running.specs.MemoryTalksLaws.{ComesToAnEnd}
use Rattle.monitor_interp.specs.declared.monitor.Monitor as code
use Rattle.monitor_interp.specs.Monitors.{IsMonitor}
use Rattle.pair_protocol.specs.Pair.{Who, IsWhole}
use Rattle.pair_meaning.specs.Monitors.{Monitor}
use Rattle.pair_meaning.specs.Pair.{the_sides}
use Rattle.pair_meaning.specs.SlaveRun.{Slave, slave_of}
use Rattle.pair_texts.specs.declared.pair.Pair.{Pair}
use Rattle.pair_texts.specs.Seen.{HasPair, monitor_in}
use Rattle.pair_texts.specs.Start.{Texts}
use Rattle.slave_interp.specs.declared.slave.Slave as code_slave
use Rattle.slave_interp.specs.Slaves.{IsSlave}
use Rattle.pair_running.specs.declared.local_pair.running.Begun.{Begun}
use Rattle.pair_running.specs.LocalPairWhole.{alone}

-- the pair is what these texts come to, whose input is of bytes
pub record AreTextsOf (pair : Pair) (turns : ℕ) (t : Texts) : Type 0 where
  pub begins : HasPair t turns pair
  pub bytes : All (λ b. b < 256) t.input

-- both begin as the pair says
pub record BeginsAs (pair : Pair) (turns : ℕ) (begun : Begun) : Type 0 where
  pub slave : IsSlave begun.slave (slave_of (view_boot pair.boot))
  pub monitor : IsMonitor begun.monitor (alone (monitor_in pair turns))
  pub names : begun.names ≡ pair.names

-- they are this slave and this monitor, which come to an end whoever takes which turn
pub record StandAt (slave : code_slave.Slave) (monitor : code.Monitor) (window : ℕ) (x : Slave) (m : Monitor) : Type 0 where
  pub slave_is : IsSlave slave x
  pub monitor_is : IsMonitor monitor m
  pub ends : ComesToAnEnd x m window

-- under the answers that were taken they come to this end with the last one, and write these bytes
pub record HaveRun (x : Slave) (m : Monitor) (window : ℕ) (told told' : Option (ℕ → base.Who)) (bytes : List ℕ) (end : End) : Type 0 where
  pub answers : List Who
  pub taken : AreTaken answers told told'
  pub whole : IsWhole the_sides x m window answers bytes end
