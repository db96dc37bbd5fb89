use Rattle.half_meaning_law.proofs.Bodies.{bodies}
use Rattle.half_texts_law.proofs.CallsHostLaw.{half_host_starts_agree}
use Rattle.half_texts_law.proofs.calls.half_host_starts_agree.Goals as goal

pub returns : goal.returns
returns c = half_host_starts_agree bodies
