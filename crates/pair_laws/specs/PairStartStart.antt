-- What the pair of an accepted program is run with, and where both begin.
use Rattle.std.specs.Prelude.{ℕ, List}
use Rattle.host_table.specs.Hosts as table
use Rattle.host_table.specs.RunHosts.{models_of}
use Rattle.typed_tree.specs.TypedTree.{TypedTree}
use Rattle.flow_rules.specs.declared.accepted.Accepted.{Accepted}
use Rattle.policy.specs.Verdicts.{Standing}
use Rattle.pt_core.specs.CodeTree.{BootTree}
use Rattle.pt_core.specs.WellFormed.{slave_program}
use Rattle.lowering.specs.Functions.{core_program}
use Rattle.pair_meaning.specs.Monitors.{Monitor}
use Rattle.pair_meaning.specs.SlaveRun.{Slave, slave_of}
use Rattle.pair_meaning.specs.Start.{boot_of, monitor_start}
use Rattle.pair_invariant_law.specs.Live.{Setting}
use Rattle.pair_invariant_law.specs.AcceptedLaws.{monitor_half, slave_half}

-- the whole program in the normal form with its halves, under this policy, with the hosts of a table
abbrev pub setting_of : TypedTree → Accepted → Standing → table.Hosts → List ℕ → ℕ → Setting
setting_of t a policy hosts input budget = record {
  whole = core_program t;
  slave = slave_program (slave_half t a);
  monitor = monitor_half t a;
  policy = policy;
  hosts = models_of hosts.models;
  input = input;
  budget = budget;
}

-- what the slave starts from: of these hosts its own, and the input where one of these reads it
abbrev pub boot_at : TypedTree → Accepted → table.Hosts → List ℕ → ℕ → BootTree
boot_at t a hosts input budget = boot_of (slave_half t a) (models_of hosts.models) input budget

abbrev pub slave_at : TypedTree → Accepted → table.Hosts → List ℕ → ℕ → Slave
slave_at t a hosts input budget = slave_of (boot_at t a hosts input budget)

-- the monitor, with all hosts
abbrev pub monitor_at : TypedTree → Accepted → Standing → table.Hosts → List ℕ → ℕ → Monitor
monitor_at t a policy hosts input budget = monitor_start (monitor_half t a) (models_of hosts.models) input policy budget
