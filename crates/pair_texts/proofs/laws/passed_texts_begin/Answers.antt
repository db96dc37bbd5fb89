use Rattle.pair_texts.proofs.OneOutcome.{passed_begin}
use Rattle.pair_texts.proofs.laws.passed_texts_begin.Goals as goal

pub returns : goal.returns
returns c = passed_begin
