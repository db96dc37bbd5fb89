use Rattle.boots.proofs.BootLaws.{none_begins_another}
use Rattle.boots.proofs.laws.none_begins_another.Goals as goal

pub returns : goal.returns
returns c = none_begins_another
