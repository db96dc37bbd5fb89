use Rattle.std.proofs.Common.{◌≡◌, ◌++◌, ◌-◌}
use Rattle.typed_tree.specs.Cells.{repeated}
use Rattle.check_statements.proofs.leaves.add_repeated.Given as goal

abbrev pub invariant-loop-i : goal.invariant-loop-i
invariant-loop-i l = l.leaves.items ++ repeated (l.count - l._i) l.element ≡ l.fn.leaves.items ++ repeated l.count l.element
