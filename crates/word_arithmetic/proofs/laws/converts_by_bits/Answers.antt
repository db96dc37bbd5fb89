use Rattle.word_arithmetic.proofs.WordLemmas.{by_bits}
use Rattle.word_arithmetic.proofs.laws.converts_by_bits.Goals as goal

pub returns : goal.returns
returns c = by_bits
