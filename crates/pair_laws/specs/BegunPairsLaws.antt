-- What begins from faultless texts is well formed, and its pair does what is expected of their program.
use Rattle.std.specs.Prelude.{◌<◌, ◌^◌, ℕ, All, IsTrue}
use Rattle.runs.specs.State.{Hosts}
use Rattle.host_models.specs.Fitting.{fits}
use Rattle.policy.specs.Verdicts.{start}
use Rattle.pt_core.specs.CodeTree.{BootTree}
use Rattle.pt_core.specs.WellFormed.{is_well_formed_boot, is_well_formed_monitor}
use Rattle.pair_meaning.specs.Monitors.{Monitor}
pub use Rattle.pair_laws.specs.AcceptedPairsLaws.{AcceptedPairsBegin, AcceptedSlavesStay, DoesWhatIsExpected, HostsAre, HostsServe, boot_at, expected_of, setting_of, with_hosts}
use Rattle.pair_texts.specs.Start.{HaveBegun, Texts}

-- ---- what both start from

abbrev pub BegunBootsAreWellFormed : Type 0
BegunBootsAreWellFormed = (t : Texts) (turns : ℕ) (boot : BootTree) (monitor : Monitor) → HaveBegun t turns boot monitor → IsTrue (is_well_formed_boot fits boot)

abbrev pub BegunMonitorsAreWellFormed : Type 0
BegunMonitorsAreWellFormed = (t : Texts) (turns : ℕ) (boot : BootTree) (monitor : Monitor) → HaveBegun t turns boot monitor → IsTrue (is_well_formed_monitor monitor.program)

-- Each host that the monitor's code calls, or that the slave may ask it for, has a model that may stand for it.
abbrev pub BegunMonitorsHostsServe : Type 0
BegunMonitorsHostsServe = (t : Texts) (turns : ℕ) (boot : BootTree) (monitor : Monitor) → HaveBegun t turns boot monitor → HostsServe monitor.program monitor.hosts

-- ---- what they come to

-- Of an input of bytes and a budget of 32 bits: the pair does what is expected of the program under the policy's rules, whatever its
-- monitor has beside its own hosts.
abbrev pub BegunPairsAreExpected : Type 0
BegunPairsAreExpected = (t : Texts) (turns : ℕ) (boot : BootTree) (monitor : Monitor) (b : HaveBegun t turns boot monitor) (own : Hosts) → All (λ b. b < 256) t.input → turns < 2 ^ 32 → HostsAre monitor.program own monitor.hosts →
    DoesWhatIsExpected (expected_of b.started.tree (start b.started.rules) b.started.hosts t.input turns) boot (with_hosts own monitor)
