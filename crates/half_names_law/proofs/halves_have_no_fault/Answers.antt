use Rattle.half_meaning_law.proofs.Bodies.{bodies}
use Rattle.half_names_law.proofs.Law.{no_faults}
use Rattle.half_names_law.proofs.halves_have_no_fault.Goals as goal

pub returns : goal.returns
returns c = no_faults bodies
