use Rattle.std.proofs.Common.{◌≡◌, ◌++◌}
use Rattle.typed_tree.specs.Cells.{element_leaves, repeated}
use Rattle.core_machine.proofs.leaves.add_elements.Given as goal

abbrev pub invariant-loop-left : goal.invariant-loop-left
invariant-loop-left l =
    l.leaves.items ++ repeated l.left (element_leaves l.known l.elem) ≡ l.fn.leaves.items ++ repeated l.fn.count (element_leaves l.fn.known l.fn.elem)

abbrev pub decreases-loop-left : goal.decreases-loop-left
decreases-loop-left l = l.left
