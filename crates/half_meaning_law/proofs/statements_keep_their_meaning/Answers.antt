use Rattle.half_meaning_law.proofs.StatementLaw.{statements}
use Rattle.half_meaning_law.proofs.statements_keep_their_meaning.Goals as goal

pub returns : goal.returns
returns c = statements
