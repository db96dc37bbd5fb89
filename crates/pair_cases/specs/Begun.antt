-- What a pair of texts starts from.
use Rattle.std.specs.Prelude.{◌<◌, ℕ, All}
use Rattle.host_table.specs.Hosts.{hosts_of}
use Rattle.host_table.specs.RunHosts.{models_of}
use Rattle.pt_core.specs.CodeTree.{view_monitor}
use Rattle.pair_meaning.specs.Monitors.{Monitor}
use Rattle.pair_meaning.specs.Start.{monitor_start}
use Rattle.monitor_interp.specs.Gates.{hosts_for}
use Rattle.pair_texts.specs.declared.pair.Pair.{Pair}
use Rattle.pair_texts.specs.Seen.{HasPair}
use Rattle.pair_texts.specs.Start.{Texts}
use Rattle.sessions.specs.Hubs as sessions
use Rattle.sessions.specs.IsHub.{IsHub}
use Rattle.sessions.specs.declared.hub.Hub.{Hub}

-- the pair is what these texts, whose input is of bytes, start within so many turns
pub record AreTextsOf (pair : Pair) (turns : ℕ) (t : Texts) : Type 0 where
  pub begins : HasPair t turns pair
  pub bytes : All (λ b. b < 256) t.input

-- the monitor that starts from the pair, with its own hosts alone
abbrev pub monitor_of : Pair → ℕ → Monitor
monitor_of pair turns = monitor_start (view_monitor pair.monitor) (hosts_for (view_monitor pair.monitor) (models_of (hosts_of pair.hosts).models)) (hosts_of pair.hosts).input pair.policy turns

-- the hub is one, whichever
abbrev pub IsServed : Hub → Type 0
IsServed x = (h : sessions.Hub) × IsHub x h
