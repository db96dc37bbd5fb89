-- A value that comes from nowhere, or goes nowhere.
use Rattle.std.proofs.Common.{arith}
use Rattle.flow_edges.specs.MoveView.{moved_edges, view_move}
use Rattle.flow_edges.proofs.MoveLemmas.{adds_nothing_from, adds_nothing_to}
use Rattle.flow_edges.proofs.MovedLemmas.{moved_push}
use Rattle.flow_edges.proofs.moves.Move.add_to.Goals as goal
use Rattle.flow_edges.proofs.moves.Move.add_to.Goals.{then-is_empty-via-then-is_empty, then-is_empty-via-else-is_empty+then-is_empty-2}

pub returns-then-is_empty : goal.returns-then-is_empty
returns-then-is_empty c = elim c.then-is_empty.branch [
  | then-is_empty-via-then-is_empty w ↦ adds_nothing_from (moved_edges c.args.moves.now.items) (view_move c.args.self) (grind (arith, w.if-is_empty))
  | then-is_empty-via-else-is_empty+then-is_empty-2 w ↦ adds_nothing_to (moved_edges c.args.moves.now.items) (view_move c.args.self) (grind (arith, w.if-is_empty-2))
]

pub returns : goal.returns
returns c = moved_push _ _ c.args.self c.in_ok-push.ensures.items
