use Rattle.word_arithmetic.proofs.WordLemmas.{zero}
use Rattle.word_arithmetic.proofs.laws.zero_as_word.Goals as goal

pub returns : goal.returns
returns c = zero
