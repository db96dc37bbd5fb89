use Rattle.boots.proofs.BootLaws.{one_spelling}
use Rattle.boots.proofs.laws.one_spelling.Goals as goal

pub returns : goal.returns
returns c = one_spelling
