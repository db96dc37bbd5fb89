use Rattle.wire.proofs.StreamLaws.{none_begins_another}
use Rattle.wire.proofs.laws.none_begins_another.Goals as goal

pub returns : goal.returns
returns c = none_begins_another
