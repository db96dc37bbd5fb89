-- Laws on nodes.
use Rattle.std.specs.Prelude.{◌≡◌, ◌<◌, ℕ, Contains, IsTrue, map}
use Rattle.std.specs.List.{range_with_len}
use Rattle.pt_core.specs.CodeTree.{MonitorTree}
use Rattle.pt_core.specs.WellFormed.{is_well_formed_monitor}
use Rattle.monitor_labels.specs.Nodes.{nodes_of, number_of, node_count, of_result}
use Rattle.monitor_labels.specs.Secrecy.{audited}

-- the nodes have all numbers below their count, in order: no two have one number
abbrev pub NodesAreNumbered : Type 0
NodesAreNumbered = (p : MonitorTree) → IsTrue (is_well_formed_monitor p) → map (number_of p) (nodes_of p) ≡ range_with_len 0 (node_count p)

-- what a function gives whose result is given openly is a node
abbrev pub AuditedResultsAreNodes : Type 0
AuditedResultsAreNodes = (p : MonitorTree) (f : ℕ) → IsTrue (is_well_formed_monitor p) → Contains (audited p) f → number_of p (of_result f) < node_count p
