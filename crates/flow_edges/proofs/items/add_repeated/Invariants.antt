use Rattle.std.proofs.Common.{◌≡◌, ◌++◌, ◌-◌}
use Rattle.typed_tree.specs.Cells.{repeated}
use Rattle.flow_edges.proofs.items.add_repeated.Given as goal

abbrev pub invariant-loop-i : goal.invariant-loop-i
invariant-loop-i l = l.slots.items ++ repeated (l.count - l._i) l.element ≡ l.fn.slots.items ++ repeated l.count l.element
