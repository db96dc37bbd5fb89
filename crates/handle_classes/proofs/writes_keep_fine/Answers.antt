use Rattle.handle_classes.proofs.Outside.{writes_keep_fine}
use Rattle.handle_classes.proofs.writes_keep_fine.Goals as goal

pub returns : goal.returns
returns c = writes_keep_fine
