use Rattle.pair_running.proofs.SpawnedPairCuts.{cuts_are_enough}
use Rattle.pair_running.proofs.spawned_pair.laws.first_bytes_are_enough.Goals as goal

pub returns : goal.returns
returns g c = cuts_are_enough _ _ _ _ _ _
