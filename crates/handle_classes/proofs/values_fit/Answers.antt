use Rattle.handle_classes.proofs.Values.{values_fit}
use Rattle.handle_classes.proofs.values_fit.Goals as goal

pub returns : goal.returns
returns c = values_fit
