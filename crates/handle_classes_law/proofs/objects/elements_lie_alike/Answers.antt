use Rattle.handle_classes_law.proofs.ObjectsItems.{elements_lie_alike}
use Rattle.handle_classes_law.proofs.objects.elements_lie_alike.Goals as goal

pub returns : goal.returns
returns c = elements_lie_alike
