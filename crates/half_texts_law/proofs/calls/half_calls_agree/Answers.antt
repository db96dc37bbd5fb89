use Rattle.half_meaning_law.proofs.Bodies.{bodies}
use Rattle.half_texts_law.proofs.CallsLaw.{half_calls_agree}
use Rattle.half_texts_law.proofs.calls.half_calls_agree.Goals as goal

pub returns : goal.returns
returns c = half_calls_agree bodies
