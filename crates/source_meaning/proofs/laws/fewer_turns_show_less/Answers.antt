use Rattle.source_meaning.proofs.RunLaws.{prefix}
use Rattle.source_meaning.proofs.laws.fewer_turns_show_less.Goals as goal

pub returns : goal.returns
returns c = prefix
