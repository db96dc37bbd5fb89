-- The nodes of a program, as code has them.
use Rattle.std.specs.Prelude.{◌≡◌}
use Rattle.pt_core.specs.CodeTree.{MonitorTree}
use Rattle.monitor_labels.specs.declared.nodes.Nodes.{Nodes}
use Rattle.monitor_labels.specs.Nodes.{node_count}
use Rattle.monitor_labels.specs.Seeds.{seeds_of}
use Rattle.monitor_labels.specs.Counting.{ArePlaces}

pub record AreNodes (p : MonitorTree) (nodes : Nodes) : Type 0 where
  pub count : nodes.count ≡ node_count p
  pub seeds : nodes.seeds ≡ seeds_of p
  pub places : ArePlaces p nodes.places
