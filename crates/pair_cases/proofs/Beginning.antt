-- What begins from texts may be served.
use Rattle.std.proofs.Common.{◌<◌, ℕ, List, sym, ap, subst}
use Rattle.std.specs.Prelude.{All, IsTrue, OnOk, Result, Ok, Err}
use Rattle.host_table.specs.Hosts.{hosts_of}
use Rattle.host_table.specs.RunHosts.{models_of}
use Rattle.pt_core.specs.CodeTree.{view_boot, view_monitor}
use Rattle.pt_core.specs.WellFormed.{is_well_formed_monitor}
use Rattle.pair_meaning.specs.Monitors.{Monitor}
use Rattle.pair_laws.specs.BegunPairsLaws.{HostsServe}
use Rattle.pair_texts.specs.declared.pair.Pair.{Pair}
use Rattle.pair_texts.specs.Seen.{monitor_in}
use Rattle.pair_texts.specs.Start.{HaveBegun, Texts}
use Rattle.pair_laws.specs.BegunPairsLaws.{BegunMonitorsAreWellFormed, BegunMonitorsHostsServe}
use Rattle.sessions.specs.Hubs.{OthersStay}
use Rattle.sessions.specs.Hubs as sessions
use Rattle.sessions.specs.IsHub.{IsHub}
use Rattle.sessions.specs.declared.hub.Hub.{Hub}
use Rattle.pair_cases.specs.Begun.{AreTextsOf, IsServed}

abbrev begun_of : (pair : Pair) (turns : ℕ) (t : Texts) → AreTextsOf pair turns t → HaveBegun t turns (view_boot pair.boot) (monitor_in pair turns)
begun_of pair turns t texts = texts.begins.0

pub monitor_is_well_formed : BegunMonitorsAreWellFormed → (pair : Pair) (turns : ℕ) (t : Texts) → AreTextsOf pair turns t → IsTrue (is_well_formed_monitor (view_monitor pair.monitor))
monitor_is_well_formed law pair turns t texts = law t turns (view_boot pair.boot) (monitor_in pair turns) (begun_of pair turns t texts)

pub hosts_serve : BegunMonitorsHostsServe → (pair : Pair) (turns : ℕ) (t : Texts) → AreTextsOf pair turns t → HostsServe (view_monitor pair.monitor) (models_of (hosts_of pair.hosts).models)
hosts_serve law pair turns t texts = law t turns (view_boot pair.boot) (monitor_in pair turns) (begun_of pair turns t texts)

pub input_is_bytes : (pair : Pair) (turns : ℕ) (t : Texts) → AreTextsOf pair turns t → All (λ b. b < 256) (hosts_of pair.hosts).input
input_is_bytes pair turns t texts =
    subst (λ (bytes : List ℕ). All (λ b. b < 256) bytes) (sym (ap (λ (m : Monitor). m.input) (begun_of pair turns t texts).started.monitor_is)) texts.bytes

-- a hub is one behind a call, whatever is made of the call's answer
pub served_anyway : {A E : Type 0} (r : Result A E) (x : Hub) (h : sessions.Hub) (s : ℕ) → ((next : sessions.Hub) × IsHub x next × OthersStay s h next) → OnOk r (IsServed x)
served_anyway (Ok a) x h s at = (at.0, at.1)
served_anyway (Err e) x h s at = tt {0}
