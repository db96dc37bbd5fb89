use Rattle.marshalling_law.proofs.RepliesToldLemmas.{cells_by_what_is_told}
use Rattle.marshalling_law.proofs.replies.cells_by_what_is_told.Goals as goal

pub returns : goal.returns
returns c = cells_by_what_is_told
