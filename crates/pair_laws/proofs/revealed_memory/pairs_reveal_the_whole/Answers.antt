use Rattle.pair_laws.proofs.RevealedMemoryRevealed.{pairs_reveal}
use Rattle.pair_laws.proofs.revealed_memory.pairs_reveal_the_whole.Goals as goal

pub returns : goal.returns
returns c =
    pairs_reveal c.programs_are_well_formed.ensures c.checked_programs_place_nulls.ensures c.boots_are_well_formed.ensures c.accepted_slaves_stay.ensures c.accepted_pairs_begin.ensures
    c.calls_keep.ensures c.the_pair_keeps.ensures c.lowering_keeps_the_run.ensures
