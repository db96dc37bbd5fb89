use Rattle.source_soundness.proofs.CallSizes.{calls_keep_sizes}
use Rattle.source_soundness.proofs.deep_calls_keep_sizes.Goals as goal

pub returns : goal.returns
returns c = calls_keep_sizes
