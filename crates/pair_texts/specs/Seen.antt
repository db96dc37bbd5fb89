-- What contracts see of a pair.
use Rattle.std.specs.Prelude.{◌≡◌, ℕ, List}
use Rattle.typed_tree.specs.TypedTree.{TypedTree}
use Rattle.host_table.specs.Hosts.{Hosts, hosts_of}
use Rattle.host_table.specs.RunHosts.{models_of}
use Rattle.policy.specs.Verdicts.{Standing}
use Rattle.flow_rules.specs.declared.accepted.Accepted.{Accepted}
use Rattle.program_halves.specs.ProgramHalves.{monitor_half, slave_half}
use Rattle.pt_core.specs.CodeTree.{BootTree, MonitorTree, view_boot, view_monitor}
use Rattle.pair_meaning.specs.Monitors.{Monitor}
use Rattle.pair_meaning.specs.Start.{boot_of, monitor_start}
use Rattle.stages.specs.Climb.{as_written}
use Rattle.pair_texts.specs.declared.beginning.Beside.{Beside}
use Rattle.pair_texts.specs.declared.pair.Pair.{Pair}
use Rattle.pair_texts.specs.Start.{HaveBegun, Texts, names_of}

abbrev pub texts_with : List ℕ → Beside → Texts
texts_with program beside = record { program = program; host = beside.host.now; policy = beside.policy.now; input = beside.input.now; way = as_written }

-- what the slave starts from and the monitor's program, of a program that breaks no rule, with these hosts
pub record AreParts (t : TypedTree) (a : Accepted) (hosts : Hosts) (input : List ℕ) (turns : ℕ) (boot : BootTree) (monitor : MonitorTree) : Type 0 where
  pub boot_is : boot ≡ boot_of (slave_half t a) (models_of hosts.models) input turns
  pub monitor_is : monitor ≡ monitor_half t a

-- the pair is made of a program that breaks no rule, with these hosts, which were given the input, and this policy
pub record IsMadeOf (t : TypedTree) (a : Accepted) (hosts : Hosts) (policy : Standing) (input : List ℕ) (turns : ℕ) (p : Pair) : Type 0 where
  pub hosts_are : hosts_of p.hosts ≡ record hosts { input = input }
  pub policy_is : p.policy ≡ policy
  pub parts : AreParts t a (hosts_of p.hosts) input turns (view_boot p.boot) (view_monitor p.monitor)
  pub names_are : p.names ≡ names_of t

-- the monitor that starts from this
abbrev pub monitor_in : Pair → ℕ → Monitor
monitor_in p turns = monitor_start (view_monitor p.monitor) (models_of (hosts_of p.hosts).models) (hosts_of p.hosts).input p.policy turns

-- the pair is what these texts start, with the names of their program's functions
abbrev pub HasPair : Texts → ℕ → Pair → Type 0
HasPair t turns p = (b : HaveBegun t turns (view_boot p.boot) (monitor_in p turns)) × (p.names ≡ names_of b.started.tree)
