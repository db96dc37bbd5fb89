use Rattle.half_meaning_law.proofs.Bodies.{bodies}
use Rattle.half_texts_law.proofs.CallsHostLaw.{half_hosts_agree}
use Rattle.half_texts_law.proofs.calls.half_hosts_agree.Goals as goal

pub returns : goal.returns
returns c = half_hosts_agree bodies
