use Rattle.half_meaning_law.proofs.Bodies.{bodies}
use Rattle.half_names_law.proofs.Law.{slaves_fine}
use Rattle.half_names_law.proofs.slaves_have_no_type_fault.Goals as goal

pub returns : goal.returns
returns c = slaves_fine bodies
