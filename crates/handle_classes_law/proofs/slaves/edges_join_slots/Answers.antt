use Rattle.handle_classes_law.proofs.SlavesJoins.{edges_join}
use Rattle.handle_classes_law.proofs.slaves.edges_join_slots.Goals as goal

pub returns : goal.returns
returns c = edges_join
