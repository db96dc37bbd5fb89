use Rattle.flow_edges.specs.MoveView.{view_move}
use Rattle.flow_edges.proofs.MoveLemmas.{counted}
use Rattle.flow_edges.proofs.moves.Move.count.Goals as goal

pub returns-in-Some : goal.returns-in-Some
returns-in-Some c = counted (view_move c.args.self.now) _ c.in-Some.ensures
