use Rattle.handle_classes_law.proofs.ObjectsItems.{leaves_are_own}
use Rattle.handle_classes_law.proofs.objects.leaves_are_own.Goals as goal

pub returns : goal.returns
returns c = leaves_are_own
