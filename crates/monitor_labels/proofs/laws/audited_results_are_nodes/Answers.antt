use Rattle.monitor_labels.proofs.NumberLemmas.{audited_nodes}
use Rattle.monitor_labels.proofs.laws.audited_results_are_nodes.Goals as goal

pub returns : goal.returns
returns c = audited_nodes
