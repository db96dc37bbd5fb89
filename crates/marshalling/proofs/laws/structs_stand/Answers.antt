use Rattle.marshalling.proofs.SoundStructs.{structs_stand}
use Rattle.marshalling.proofs.laws.structs_stand.Goals as goal

pub returns : goal.returns
returns c = structs_stand
