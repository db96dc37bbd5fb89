use Rattle.monitor_labels.proofs.NumberLemmas.{numbered_nodes}
use Rattle.monitor_labels.proofs.laws.nodes_are_numbered.Goals as goal

pub returns : goal.returns
returns c = numbered_nodes
