use Rattle.source_soundness.proofs.Soundness.{value_fits}
use Rattle.source_soundness.proofs.values_have_their_types.Goals as goal

pub returns : goal.returns
returns c = λ w n d a st k h m. value_fits a w n d st k h m
