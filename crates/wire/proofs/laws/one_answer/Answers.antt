use Rattle.wire.proofs.RunLaws.{one_answer}
use Rattle.wire.proofs.laws.one_answer.Goals as goal

pub returns : goal.returns
returns c = one_answer
