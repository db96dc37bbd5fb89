use Rattle.boots.proofs.BootLaws.{one_reading}
use Rattle.boots.proofs.laws.one_reading.Goals as goal

pub returns : goal.returns
returns c = one_reading
