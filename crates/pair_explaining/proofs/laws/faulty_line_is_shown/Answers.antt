use Rattle.pair_explaining.proofs.ShownLines.{shown_line}
use Rattle.pair_explaining.proofs.laws.faulty_line_is_shown.Goals as goal

pub returns : goal.returns
returns c = shown_line
