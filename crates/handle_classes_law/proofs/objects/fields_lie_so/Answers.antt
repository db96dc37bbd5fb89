use Rattle.handle_classes_law.proofs.ObjectsItems.{fields_lie_so}
use Rattle.handle_classes_law.proofs.objects.fields_lie_so.Goals as goal

pub returns : goal.returns
returns c = fields_lie_so
