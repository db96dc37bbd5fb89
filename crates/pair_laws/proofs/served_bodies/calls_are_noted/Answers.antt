use Rattle.pair_laws.proofs.ServedBodiesCalled.{calls_are_noted}
use Rattle.pair_laws.proofs.served_bodies.calls_are_noted.Goals as goal

pub returns : goal.returns
returns c = calls_are_noted
