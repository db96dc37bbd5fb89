use Rattle.pair_laws.proofs.ServedBodiesWork.{scenes_are_sent}
use Rattle.pair_laws.proofs.served_bodies.scenes_are_sent.Goals as goal

pub returns : goal.returns
returns c = scenes_are_sent
