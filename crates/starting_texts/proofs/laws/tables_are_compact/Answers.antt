use Rattle.starting_texts.proofs.CompactLemmas.{compact}
use Rattle.starting_texts.proofs.laws.tables_are_compact.Goals as goal

pub returns : goal.returns
returns c = compact
