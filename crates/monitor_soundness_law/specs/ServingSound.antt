-- Which monitors are sound between two messages.
use Rattle.std.specs.Prelude.{◌≡◌, ◌≤◌, ◌<◌, ◌^◌, ℕ, Some, IsTrue, nat_eq}
use Rattle.std.specs.Map.{lookup}
use Rattle.pt_tree.specs.declared.signature.Signature.{Signature}
use Rattle.runs.specs.State.{Hosts}
use Rattle.host_models.specs.Fitting.{fits}
use Rattle.handle_store.specs.Stored.{AreInRange}
use Rattle.pt_core.specs.CodeTree.{MonitorTree}
use Rattle.pt_core.specs.WellFormed.{is_well_formed_monitor, monitor_program}
use Rattle.monitor_soundness_law.specs.Laws.{HostsFit, IsAtRest}
use Rattle.pair_meaning.specs.Monitors.{Monitor, entries_in}
use Rattle.pair_meaning.specs.Serving.{global_part}

-- each host that may be asked for has a model that may stand for it
abbrev pub AskedFit : MonitorTree → Hosts → Type 0
AskedFit p hosts = (f : ℕ) (s : Signature) → lookup (nat_eq f) (entries_in p) ≡ Some s → IsTrue s.host → IsTrue (fits (hosts f) s)

-- so has each that the program's functions call
pub record HostsServe (p : MonitorTree) (hosts : Hosts) : Type 0 where
  pub called : HostsFit (monitor_program p) hosts
  pub asked : AskedFit p hosts

-- Its globals are numbers of their types, and it has no other block; what is stored is in its type's range; and no more turns are
-- taken than there are, one for each guarded call among them.
pub record IsSound (m : Monitor) : Type 0 where
  pub program : IsTrue (is_well_formed_monitor m.program)
  pub rest : IsAtRest (monitor_program m.program) m.globals m.hosts m.input
  pub asked : AskedFit m.program m.hosts
  pub alone : global_part m.globals ≡ m.globals
  pub store : AreInRange m.store
  pub calls : m.calls ≤ m.turns
  pub turns : m.turns ≤ m.budget
  pub budget : m.budget < 2 ^ 32
