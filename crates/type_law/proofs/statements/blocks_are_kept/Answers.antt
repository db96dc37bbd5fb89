use Rattle.type_law.proofs.StatementsBodies.{blocks_kept}
use Rattle.type_law.proofs.statements.blocks_are_kept.Goals as goal

pub returns : goal.returns
returns c = blocks_kept
