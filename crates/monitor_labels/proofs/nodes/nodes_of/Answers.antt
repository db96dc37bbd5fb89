use Rattle.pt_core.specs.CodeTree.{view_monitor}
use Rattle.monitor_labels.proofs.PlaceLemmas.{ordered}
use Rattle.monitor_labels.proofs.nodes.nodes_of.Goals as goal

pub seeds_of-requires-clause-ordered : goal.seeds_of-requires-clause-ordered
seeds_of-requires-clause-ordered c = ordered (view_monitor c.args.p.now) c.requires
