use Rattle.outlining.proofs.LawLemmas.{words_tell}
use Rattle.outlining.proofs.laws.words_tell_cells.Goals as goal

pub returns : goal.returns
returns c = words_tell
