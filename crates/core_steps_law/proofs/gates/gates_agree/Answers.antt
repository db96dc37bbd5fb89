use Rattle.core_steps_law.proofs.GatesAgreement.{gates_agree}
use Rattle.core_steps_law.proofs.gates.gates_agree.Goals as goal

pub returns : goal.returns
returns g c = gates_agree
