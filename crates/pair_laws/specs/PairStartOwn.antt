-- The hosts with which a monitor begins for its own.
use Rattle.std.specs.Prelude.{◌≡◌, ℕ, true}
use Rattle.runs.specs.State.{Hosts}
use Rattle.pt_core.specs.CodeTree.{MonitorTree}
use Rattle.pt_core.specs.Calls.{signature_in}
use Rattle.pt_core.specs.WellFormed.{monitor_program}
use Rattle.part_views_law.specs.StepsParts.{HasSignature}
use Rattle.pair_meaning.specs.Monitors.{Monitor}

-- For each host that the program has a signature of, the same stands as among these hosts; for others anything may.
abbrev pub HostsAre : MonitorTree → Hosts → Hosts → Type 0
HostsAre p own hosts = (f : ℕ) → HasSignature (monitor_program p) f → (signature_in (monitor_program p) f).host ≡ true → own f ≡ hosts f

-- this monitor, with these hosts for its own
abbrev pub with_hosts : Hosts → Monitor → Monitor
with_hosts own m = record m { hosts = own }
