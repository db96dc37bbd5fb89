use Rattle.source_meaning.specs.Expressions.{sizes}
use Rattle.source_meaning.specs.Statements.{statement}
use Rattle.source_soundness.proofs.StatementSizes.{steady_sizes, statement_good}
use Rattle.source_soundness.proofs.statements_keep_sizes.Goals as goal

pub returns : goal.returns
returns c = λ w scope code out back body st k sound calls h m z.
    steady_sizes w (sizes code.context) (statement body code st) (statement_good body w scope code out back st (record { fits = k; sound = sound; calls = calls }) h (m, z))
