-- What contracts see of values that move.
use Rattle.std.specs.Prelude.{List, map}
use Rattle.std.specs.List.{flat_map}
use Rattle.pt_base.specs.declared.slot.Edge.{Edge}
use Rattle.flow_edges.specs.declared.moves.Move.{Move}
use Rattle.flow_edges.specs.Moves as is

abbrev pub view_move : Move → is.Move
view_move m = record { from = m.from.items; to = m.to.items; leaves = m.leaves; back = m.back; span = m.span }

-- the edges of values that move, one value after the other
abbrev pub moved_edges : List Move → List Edge
moved_edges ms = flat_map is.move_edges (map view_move ms)
