use Rattle.std.proofs.Common.{◌≡◌, ◌-◌, ◌++◌}
use Rattle.typed_tree.specs.Cells.{repeated}
use Rattle.marshalling.proofs.ranges.range_cells.Given as goal

abbrev pub invariant-loop : goal.invariant-loop
invariant-loop l = l.leaves.items ++ repeated (l.count - l.counter) l.element.items ≡ repeated l.count l.element.items
