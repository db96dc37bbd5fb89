use Rattle.core_soundness_law.proofs.More.{more_is_kept}
use Rattle.core_soundness_law.proofs.more_is_kept.Goals as goal

pub returns : goal.returns
returns c = more_is_kept
