use Rattle.std.proofs.Common.{◌≡◌, ◌++◌, drop}
use Rattle.std.specs.List.{flat_map}
use Rattle.typed_tree.specs.TypedView.{view_typed}
use Rattle.flow_edges.specs.MoveView.{moved_edges}
use Rattle.flow_threads.specs.OwnEdges.{own_edges}
use Rattle.flow_threads.proofs.edges.moves_of_run.Given as goal

-- the edges of what moves so far, and then those of the other functions, are those of all of these
abbrev pub invariant-loop-f : goal.invariant-loop-f
invariant-loop-f g l = moved_edges l.moves.items ++ flat_map (own_edges (view_typed l.t) l.sides) (drop l.f-index l.functions) ≡ flat_map (own_edges (view_typed l.t) l.sides) l.functions
