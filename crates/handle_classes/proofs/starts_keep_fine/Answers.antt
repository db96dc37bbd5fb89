use Rattle.handle_classes.proofs.Outside.{starts_keep_fine}
use Rattle.handle_classes.proofs.starts_keep_fine.Goals as goal

pub returns : goal.returns
returns c = starts_keep_fine
