use Rattle.plain_names_law.proofs.TextNames.{names_are_plain}
use Rattle.plain_names_law.proofs.names_of_texts_are_plain.Goals as goal

pub returns : goal.returns
returns c = names_are_plain
