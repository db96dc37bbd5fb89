use Rattle.half_texts_law.proofs.DeclarationsAccepted.{accepted_halves_writable}
use Rattle.half_texts_law.proofs.declarations.accepted_halves_are_writable.Goals as goal

pub returns : goal.returns
returns c =
    accepted_halves_writable c.trees_are_marked.ensures c.programs_are_well_formed.ensures c.slaves_are_well_formed.ensures c.monitors_are_well_formed.ensures c.accepted_programs_share_nothing.ensures c.accepted_halves_are_said.ensures
