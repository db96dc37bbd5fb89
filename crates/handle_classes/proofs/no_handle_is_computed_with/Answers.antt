use Rattle.handle_classes.proofs.NextStep.{no_handle_is_computed_with}
use Rattle.handle_classes.proofs.no_handle_is_computed_with.Goals as goal

pub returns : goal.returns
returns g c = no_handle_is_computed_with
