use Rattle.half_meaning_law.proofs.StatementLaw.{blocks}
use Rattle.half_meaning_law.proofs.blocks_keep_their_meaning.Goals as goal

pub returns : goal.returns
returns c = blocks
