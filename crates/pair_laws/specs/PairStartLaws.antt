-- The pair of an accepted program begins in the invariant.
use Rattle.std.specs.Prelude.{◌<◌, ℕ, List, [], All, IsTrue}
use Rattle.runs.specs.State.{Hosts}
use Rattle.host_models.specs.Fitting.{fits}
use Rattle.host_table.specs.Hosts as table
use Rattle.host_table.specs.RunHosts.{models_of}
use Rattle.host_table.specs.Whole.{HasHosts}
use Rattle.typed_tree.specs.TypedTree.{TypedTree, signatures_of}
use Rattle.typed_tree.specs.WellFormed.{is_well_formed}
use Rattle.flow_rules.specs.declared.accepted.Accepted.{Accepted}
use Rattle.flow_rules.specs.Faults.{IsAccepted}
use Rattle.policy.specs.Verdicts.{Standing}
use Rattle.pt_core.specs.WellFormed.{is_well_formed_boot, is_well_formed_monitor, monitor_program, slave_program}
use Rattle.slave_soundness_law.specs.Sound.{IsSound}
pub use Rattle.monitor_soundness_law.specs.ServingSound.{HostsServe}
use Rattle.pair_invariant_law.specs.Hosts.{HostsAgree}
use Rattle.pair_invariant_law.specs.Live.{IsLive, IsSetting}
use Rattle.pair_invariant_law.specs.Slaves.{Stays}
pub use Rattle.pair_invariant_law.specs.AcceptedLaws.{monitor_half, slave_half}
use Rattle.half_names_law.specs.SaidNulls.{nulls_stand}
use Rattle.pair_laws.specs.PairStartOwn.{HostsAre, with_hosts}
use Rattle.pair_laws.specs.PairStartStart.{boot_at, monitor_at, setting_of, slave_at}

-- A well-formed program that breaks no rule, and the hosts of a table without faults for its functions.
pub record IsAcceptedWith (t : TypedTree) (a : Accepted) (hosts : table.Hosts) : Type 0 where
  pub well_formed : IsTrue (is_well_formed t)
  pub accepted : IsAccepted t a
  pub has_hosts : HasHosts hosts (signatures_of t)

-- ---- what both start from

abbrev pub BootsAreWellFormed : Type 0
BootsAreWellFormed = (t : TypedTree) (a : Accepted) (hosts : table.Hosts) (input : List ℕ) (budget : ℕ) → IsAcceptedWith t a hosts → IsTrue (is_well_formed_boot fits (boot_at t a hosts input budget))

abbrev pub SlavesOfBootsAreSound : Type 0
SlavesOfBootsAreSound = (t : TypedTree) (a : Accepted) (hosts : table.Hosts) (input : List ℕ) (budget : ℕ) → IsAcceptedWith t a hosts → All (λ b. b < 256) input → budget < 4_294_967_296 → IsSound (slave_at t a hosts input budget)

abbrev pub AcceptedMonitorsAreWellFormed : Type 0
AcceptedMonitorsAreWellFormed = (t : TypedTree) (a : Accepted) (hosts : table.Hosts) → IsAcceptedWith t a hosts → IsTrue (is_well_formed_monitor (monitor_half t a))

-- ---- hosts

-- Each host that the monitor's code calls, or that the slave may ask it for, has a model that may stand for it.
abbrev pub MonitorsHostsServe : Type 0
MonitorsHostsServe = (t : TypedTree) (a : Accepted) (hosts : table.Hosts) → IsAcceptedWith t a hosts → HostsServe (monitor_half t a) (models_of hosts.models)

-- The slave has its own hosts, and the monitor its own; one that both may call is a table, so it stays.
abbrev pub HostsAgreeAtTheStart : Type 0
HostsAgreeAtTheStart = (t : TypedTree) (a : Accepted) (hosts : table.Hosts) (input : List ℕ) (budget : ℕ) (own : Hosts) → IsAcceptedWith t a hosts → HostsAre (monitor_half t a) own (models_of hosts.models) →
    HostsAgree (slave_program (slave_half t a)) (monitor_program (monitor_half t a)) (models_of hosts.models) input (slave_at t a hosts input budget).hosts (slave_at t a hosts input budget).input own

-- ---- the pair

-- Of such a program, in which null stands only where C's null constant may, under every policy, with every input of bytes and every
-- budget of 32 bits: if its slave stays plain, whatever it is told, both begin live, with nothing written, whatever the monitor has
-- beside its own hosts.
abbrev pub AcceptedPairsBegin : Type 0
AcceptedPairsBegin = (t : TypedTree) (a : Accepted) (policy : Standing) (hosts : table.Hosts) (input : List ℕ) (budget : ℕ) (own : Hosts) →
    IsAcceptedWith t a hosts → HostsAre (monitor_half t a) own (models_of hosts.models) → IsTrue (nulls_stand t) → All (λ b. b < 256) input → budget < 4_294_967_296 → Stays (slave_at t a hosts input budget) →
    IsSetting (setting_of t a policy hosts input budget) Stays × IsLive (setting_of t a policy hosts input budget) Stays (slave_at t a hosts input budget) (with_hosts own (monitor_at t a policy hosts input budget)) []
