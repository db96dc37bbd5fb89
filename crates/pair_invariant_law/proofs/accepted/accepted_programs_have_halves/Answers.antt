use Rattle.pair_invariant_law.proofs.AcceptedHalves.{accepted_halves}
use Rattle.pair_invariant_law.proofs.accepted.accepted_programs_have_halves.Goals as goal

pub returns : goal.returns
returns c =
    accepted_halves c.accepted_programs_share_nothing.ensures c.slaves_are_well_formed.ensures c.monitors_are_well_formed.ensures
    c.lowered_code_names_what_the_body_names.ensures
