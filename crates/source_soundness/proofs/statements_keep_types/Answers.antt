use Rattle.source_soundness.proofs.StatementSoundness.{statement_keeps}
use Rattle.source_soundness.proofs.statements_keep_types.Goals as goal

pub returns : goal.returns
returns c = λ w scope code out back body st k h m. statement_keeps body w scope code out back st k h m
