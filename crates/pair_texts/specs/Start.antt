-- Where the slave and the monitor of a pair begin.
use Rattle.std.specs.Prelude.{◌≡◌, ◌≤◌, ℕ, List, IsTrue, length, map}
use Rattle.typed_tree.specs.TypedTree.{TypedTree, signatures_of}
use Rattle.typed_tree.specs.WellFormed.{is_well_formed}
use Rattle.front_end.specs.Reading.{HasTypedTree}
use Rattle.host_table.specs.Hosts.{Hosts}
use Rattle.host_table.specs.RunHosts.{models_of}
use Rattle.host_table.specs.Whole.{HasHosts}
use Rattle.policy.specs.declared.rule.Rule.{Rule}
use Rattle.policy.specs.PolicyFault.{IsPolicy}
use Rattle.policy.specs.Verdicts.{start}
use Rattle.flow_rules.specs.declared.accepted.Accepted.{Accepted}
use Rattle.flow_rules.specs.Faults.{IsAccepted}
use Rattle.program_halves.specs.ProgramHalves.{monitor_half, slave_half}
use Rattle.pt_core.specs.CodeTree.{BootTree}
use Rattle.pair_meaning.specs.Monitors.{Monitor}
use Rattle.pair_meaning.specs.Start.{boot_of, monitor_start}
use Rattle.stages.specs.GivenHosts.{GivesHosts, most}
pub use Rattle.stages.specs.Climb.{Texts}

-- the program has this typed tree, the table gives these hosts for it, and the policy has these rules
pub record AreRead (t : Texts) (tree : TypedTree) (hosts : Hosts) (rules : List Rule) : Type 0 where
  pub program : HasTypedTree t.program tree
  pub table : GivesHosts t.host tree hosts
  pub policy : IsPolicy (signatures_of tree) t.policy rules

-- No stage has a fault, and this is what the slave and the monitor start from within so many turns: the two halves of the program,
-- with the table's hosts, the input, and the policy at its start.
pub record AreStarted (t : Texts) (turns : ℕ) (boot : BootTree) (monitor : Monitor) : Type 0 where
  pub tree : TypedTree
  pub hosts : Hosts
  pub rules : List Rule
  pub accepted : Accepted
  pub read : AreRead t tree hosts rules
  pub is : IsAccepted tree accepted
  pub short : length t.input ≤ most
  pub boot_is : boot ≡ boot_of (slave_half tree accepted) (models_of hosts.models) t.input turns
  pub monitor_is : monitor ≡ monitor_start (monitor_half tree accepted) (models_of hosts.models) t.input (start rules) turns

-- both are started of a well formed program, and each of its hosts has a model that fits
pub record HaveBegun (t : Texts) (turns : ℕ) (boot : BootTree) (monitor : Monitor) : Type 0 where
  pub started : AreStarted t turns boot monitor
  pub well_formed : IsTrue (is_well_formed started.tree)
  pub has_hosts : HasHosts started.hosts (signatures_of started.tree)

-- What the slave and the monitor start from.
pub record Begun : Type 0 where
  pub boot : BootTree
  pub monitor : Monitor

-- these texts start both within so many turns
abbrev pub IsBegun : ℕ → Texts → Begun → Type 0
IsBegun turns t b = AreStarted t turns b.boot b.monitor

-- the name of each function of a program, by its number
abbrev pub names_of : TypedTree → List (List ℕ)
names_of tree = map (λ s. s.name) (signatures_of tree)
