use Rattle.handle_classes_law.proofs.SlavesSealed.{sealed_cells}
use Rattle.handle_classes_law.proofs.slaves.sealed_cells.Goals as goal

pub returns : goal.returns
returns c = sealed_cells
