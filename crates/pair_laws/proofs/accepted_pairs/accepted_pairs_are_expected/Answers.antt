use Rattle.pair_laws.proofs.AcceptedPairsExpected.{pairs_are_expected}
use Rattle.pair_laws.proofs.accepted_pairs.accepted_pairs_are_expected.Goals as goal

pub returns : goal.returns
returns c =
    pairs_are_expected c.programs_are_well_formed.ensures c.checked_programs_place_nulls.ensures c.boots_are_well_formed.ensures c.accepted_slaves_stay.ensures c.accepted_pairs_begin.ensures
    c.calls_keep.ensures c.the_pair_ends.ensures c.the_pair_is_expected.ensures c.honest_peers_are_expected.ensures c.lowering_keeps_the_run.ensures
