use Rattle.pair_running.proofs.HonestTalksBegun.{pairs_are_fair}
use Rattle.pair_running.proofs.honest_talks.begun_pairs_are_fair.Goals as goal

pub returns : goal.returns
returns c =
    pairs_are_fair c.begun_pairs_are_expected.ensures c.begun_boots_are_well_formed.ensures c.checked_programs_place_nulls.ensures c.accepted_slaves_stay.ensures c.accepted_pairs_begin.ensures
    c.calls_keep.ensures c.replies_are_awaited.ensures c.spoken_messages_are_spelled.ensures
