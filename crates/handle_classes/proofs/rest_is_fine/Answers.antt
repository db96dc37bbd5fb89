use Rattle.handle_classes.proofs.Outside.{rest_is_fine}
use Rattle.handle_classes.proofs.rest_is_fine.Goals as goal

pub returns : goal.returns
returns c = rest_is_fine
