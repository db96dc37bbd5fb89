use Rattle.std.proofs.Common.{◌≡◌, ◌++◌, drop, map}
use Rattle.typed_tree.specs.TypedView.{view_typed}
use Rattle.sides.specs.Marking.{is_marked_slot}
use Rattle.sides.proofs.marks.marked_slots.Given as goal

abbrev pub invariant-loop-slot : goal.invariant-loop-slot
invariant-loop-slot l = l.marks.items ++ map (is_marked_slot (view_typed l.t) l.table l.owned) (drop l.slot-index l.slots) ≡ map (is_marked_slot (view_typed l.fn.t) l.fn.table l.fn.owned) l.fn.slots
