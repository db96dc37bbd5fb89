-- The edges that a function of the slave has.
use Rattle.std.specs.Prelude.{◌≡◌, List, [], false, get_or, if◌then◌else◌}
use Rattle.std.specs.List.{flat_map}
use Rattle.pt_base.specs.declared.ids.FnId.{FnId}
use Rattle.pt_base.specs.declared.slot.Edge.{Edge}
use Rattle.typed_tree.specs.TypedTree.{TypedTree}
use Rattle.sides.specs.declared.halves.Sides.{Sides}
use Rattle.flow_edges.specs.declared.moves.Move.{Move}
use Rattle.flow_edges.specs.Edges.{edges_in}
use Rattle.flow_edges.specs.MoveView.{moved_edges}

-- none of a function that the slave doesn't run
abbrev pub own_edges : TypedTree → Sides → FnId → List Edge
own_edges t s f = if get_or s.in_slave.items f.0 false then edges_in t f else []

-- the values that move in these functions, by their edges, one function behind the other
abbrev pub AreOwn : TypedTree → Sides → List FnId → List Move → Type 0
AreOwn t s fs ms = moved_edges ms ≡ flat_map (own_edges t s) fs
