use Rattle.flow_picture.proofs.Cuts.{enough}
use Rattle.flow_picture.proofs.laws.first_bytes_are_enough.Goals as goal

pub returns : goal.returns
returns c = enough
