-- What begins is of an accepted program with the hosts of a table without faults.
use Rattle.std.proofs.Common.{◌<◌, ◌^◌, ℕ, List, subst, sym}
use Rattle.std.specs.Prelude.{All, IsTrue}
use Rattle.runs.specs.State.{Hosts}
use Rattle.typed_tree.specs.TypedTree.{TypedTree, signatures_of}
use Rattle.host_models.specs.Fitting.{fits}
use Rattle.host_table.specs.Hosts as table
use Rattle.host_table.specs.RunHosts.{models_of}
use Rattle.host_table.specs.Whole.{HasHosts}
use Rattle.policy.specs.declared.rule.Rule.{Rule}
use Rattle.policy.specs.Verdicts.{start}
use Rattle.flow_rules.specs.declared.accepted.Accepted.{Accepted}
use Rattle.flow_rules.specs.Faults.{IsAccepted}
use Rattle.front_end_law.proofs.ReadingsTextTrees.{program_sound}
use Rattle.pt_core.specs.CodeTree.{BootTree}
use Rattle.pt_core.specs.WellFormed.{is_well_formed_boot, is_well_formed_monitor}
use Rattle.pair_meaning.specs.Monitors.{Monitor}
use Rattle.pair_laws.specs.AcceptedPairsLaws.{HostsServe, monitor_half, AcceptedMonitorsAreWellFormed, BootsAreWellFormed, IsAcceptedWith, MonitorsHostsServe, HostsAre, with_hosts, boot_at, monitor_at, AcceptedPairsAreExpected, DoesWhatIsExpected, MayRun, expected_of}
use Rattle.pair_texts.specs.Start.{HaveBegun, Texts}
use Rattle.pair_laws.specs.BegunPairsLaws.{BegunBootsAreWellFormed, BegunMonitorsAreWellFormed, BegunMonitorsHostsServe, BegunPairsAreExpected}

-- ---- what both start from

accepted_with : (t : Texts) (turns : ℕ) (boot : BootTree) (monitor : Monitor) (b : HaveBegun t turns boot monitor) → IsAcceptedWith b.started.tree b.started.accepted b.started.hosts
accepted_with t turns boot monitor b = record { well_formed = b.well_formed; accepted = b.started.is; has_hosts = b.has_hosts }

pub boots_well_formed : BootsAreWellFormed → BegunBootsAreWellFormed
boots_well_formed law t turns boot monitor b =
    subst (λ (x : BootTree). IsTrue (is_well_formed_boot fits x)) (sym b.started.boot_is)
    (law b.started.tree b.started.accepted b.started.hosts t.input turns (accepted_with t turns boot monitor b))

pub monitors_well_formed : AcceptedMonitorsAreWellFormed → BegunMonitorsAreWellFormed
monitors_well_formed law t turns boot monitor b =
    subst (λ (x : Monitor). IsTrue (is_well_formed_monitor x.program)) (sym b.started.monitor_is)
    (law b.started.tree b.started.accepted b.started.hosts (accepted_with t turns boot monitor b))

pub hosts_serve : MonitorsHostsServe → BegunMonitorsHostsServe
hosts_serve law t turns boot monitor b =
    subst (λ (x : Monitor). HostsServe x.program x.hosts) (sym b.started.monitor_is)
    (law b.started.tree b.started.accepted b.started.hosts (accepted_with t turns boot monitor b))

-- ---- what they come to

-- the parsed program, with what was chosen of its tree
may_run : (t : Texts) (turns : ℕ) (boot : BootTree) (monitor : Monitor) (b : HaveBegun t turns boot monitor) → All (λ n. n < 256) t.input → turns < 2 ^ 32 →
    MayRun b.started.read.program.program b.started.accepted b.started.hosts t.input turns
may_run t turns boot monitor b bytes small =
    let has = b.started.read.program in
    let sound = program_sound t.program has.program has.reads in
    record {
      few = sound.0;
      sound = sound.1;
      checked = has.faultless;
      accepted = subst (λ (x : TypedTree). IsAccepted x b.started.accepted) has.typed b.started.is;
      table = subst (λ (x : TypedTree). HasHosts b.started.hosts (signatures_of x)) has.typed b.has_hosts;
      bytes = bytes;
      small = small;
    }

-- the pair of a tree does what is expected of it
abbrev Does : Accepted → List Rule → table.Hosts → List ℕ → ℕ → Hosts → TypedTree → Type 0
Does a rules hosts input turns own t = DoesWhatIsExpected (expected_of t (start rules) hosts input turns) (boot_at t a hosts input turns) (with_hosts own (monitor_at t a (start rules) hosts input turns))

pub pairs_expected : AcceptedPairsAreExpected → BegunPairsAreExpected
pairs_expected law t turns boot monitor b own bytes small are =
    let s = b.started in
    let e = expected_of s.tree (start s.rules) s.hosts t.input turns in
    let typed = s.read.program.typed in
    subst (λ (x : BootTree). DoesWhatIsExpected e x (with_hosts own monitor)) (sym s.boot_is)
    (subst (λ (m : Monitor). DoesWhatIsExpected e (boot_at s.tree s.accepted s.hosts t.input turns) (with_hosts own m)) (sym s.monitor_is)
    (subst (Does s.accepted s.rules s.hosts t.input turns own) (sym typed)
    (law s.read.program.program s.accepted (start s.rules) s.hosts t.input turns own (may_run t turns boot monitor b bytes small)
    (subst (λ (x : TypedTree). HostsAre (monitor_half x s.accepted) own (models_of s.hosts.models)) typed
    (subst (λ (m : Monitor). HostsAre m.program own m.hosts) s.monitor_is are)))))
