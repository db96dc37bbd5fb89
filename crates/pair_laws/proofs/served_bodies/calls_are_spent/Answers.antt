use Rattle.pair_laws.proofs.ServedBodiesCalled.{calls_are_spent}
use Rattle.pair_laws.proofs.served_bodies.calls_are_spent.Goals as goal

pub returns : goal.returns
returns c = calls_are_spent
