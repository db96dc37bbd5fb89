use Rattle.pair_invariant_law.specs.Slaves.{Stays}
use Rattle.pair_laws.proofs.PairStartPairs.{pairs_begin}
use Rattle.pair_laws.proofs.pair_start.accepted_pairs_begin.Goals as goal

pub returns : goal.returns
returns c = λ t a policy hosts input budget own ready are nulls bytes small stays.
    pairs_begin c.accepted_programs_share_nothing.ensures c.slaves_are_well_formed.ensures c.monitors_are_well_formed.ensures
    c.lowered_code_names_what_the_body_names.ensures c.monitors_are_said.ensures Stays t a policy hosts input budget own ready are nulls bytes small c.slaves_stay.ensures stays
