use Rattle.pair_laws.proofs.PairStartHosts.{slaves_sound}
use Rattle.pair_laws.proofs.pair_start.slaves_of_boots_are_sound.Goals as goal

pub returns : goal.returns
returns c = slaves_sound c.boots_are_well_formed.ensures c.slaves_begin_sound.ensures
