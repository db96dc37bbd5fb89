use Rattle.explaining.proofs.Cuts.{enough}
use Rattle.explaining.proofs.laws.first_bytes_are_enough.Goals as goal

pub returns : goal.returns
returns c = enough
