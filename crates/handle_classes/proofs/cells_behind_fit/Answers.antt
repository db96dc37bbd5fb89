use Rattle.handle_classes.proofs.Outside.{cells_behind_fit}
use Rattle.handle_classes.proofs.cells_behind_fit.Goals as goal

pub returns : goal.returns
returns c = cells_behind_fit
