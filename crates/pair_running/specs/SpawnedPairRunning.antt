-- What a monitor begins with.
use Rattle.std.specs.Prelude.{◌≡◌, ℕ}
use Rattle.boot_fields.specs.Limits.{Spells}
use Rattle.pt_core.specs.CodeTree.{view_boot}
use Rattle.monitor_interp.specs.Monitors.{IsMonitor}
use Rattle.pair_texts.specs.declared.pair.Pair.{Pair}
use Rattle.pair_texts.specs.Seen.{monitor_in}
use Rattle.pair_running.specs.LocalPairWhole.{alone}
use Rattle.pair_running.specs.declared.spawned_pair.running.Begun.{Begun}

-- it begins as the pair says
pub record BeginsAs (pair : Pair) (turns : ℕ) (begun : Begun) : Type 0 where
  pub boot : Spells (view_boot pair.boot) begun.boot.items
  pub monitor : IsMonitor begun.monitor (alone (monitor_in pair turns))
  pub names : begun.names ≡ pair.names
