use Rattle.pt_base.proofs.PieceLemmas.{left-start, given-start}
use Rattle.pt_base.proofs.pieces.Pieces.new.Goals as goal

pub returns-clause-left : goal.returns-clause-left
returns-clause-left c = left-start c.args.pieces.items

pub returns-clause-given : goal.returns-clause-given
returns-clause-given c = given-start c.args.pieces.items
