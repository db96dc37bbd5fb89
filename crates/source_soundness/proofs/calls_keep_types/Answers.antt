use Rattle.source_soundness.proofs.Programs.{calls_keep_types}
use Rattle.source_soundness.proofs.calls_keep_types.Goals as goal

pub returns : goal.returns
returns c = calls_keep_types
