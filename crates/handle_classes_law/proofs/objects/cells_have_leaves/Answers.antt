use Rattle.handle_classes_law.proofs.ObjectsItems.{cells_have_leaves}
use Rattle.handle_classes_law.proofs.objects.cells_have_leaves.Goals as goal

pub returns : goal.returns
returns c = cells_have_leaves
