use Rattle.pair_laws.proofs.ServedBodiesServed.{served_calls_are_the_wholes}
use Rattle.pair_laws.proofs.served_bodies.served_calls_are_the_wholes.Goals as goal

pub returns : goal.returns
returns c = served_calls_are_the_wholes
