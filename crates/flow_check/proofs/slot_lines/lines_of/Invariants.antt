use Rattle.std.proofs.Common.{◌≡◌, ◌++◌, drop}
use Rattle.typed_tree.specs.TypedView.{view_typed}
use Rattle.flow_check.specs.Kept.{kept_lines}
use Rattle.flow_check.proofs.slot_lines.lines_of.Given as goal

abbrev pub invariant-loop-slot : goal.invariant-loop-slot
invariant-loop-slot l = l.lines.items ++ kept_lines (view_typed l.t) l.slots (drop l.slot-index l.shown) ≡ kept_lines (view_typed l.t) l.slots l.fn.shown
