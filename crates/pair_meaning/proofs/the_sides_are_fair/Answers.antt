use Rattle.pair_meaning.proofs.Fair.{the_sides_are_fair}
use Rattle.pair_meaning.proofs.the_sides_are_fair.Goals as goal

pub returns : goal.returns
returns c = the_sides_are_fair
