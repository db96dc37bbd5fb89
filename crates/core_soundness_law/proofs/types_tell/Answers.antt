use Rattle.core_soundness_law.proofs.More.{types_tell}
use Rattle.core_soundness_law.proofs.types_tell.Goals as goal

pub returns : goal.returns
returns c = types_tell
