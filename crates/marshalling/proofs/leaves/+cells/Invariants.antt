use Rattle.std.proofs.Common.{◌≡◌, ◌+◌, ◌*◌, ◌-◌, ◌++◌, drop, map}
use Rattle.std.specs.List.{flat_map}
use Rattle.typed_tree.specs.Cells.{repeated}
use Rattle.marshalling.specs.Leaves.{field_cells, leaves_of, under}
use Rattle.marshalling.proofs.LeafLemmas.{rank}
use Rattle.marshalling.proofs.leaves.+cells.Given as goal

abbrev pub decreases-add_element : goal.decreases-add_element
decreases-add_element l = 2 * rank l.elem

abbrev pub decreases-add_object : goal.decreases-add_object
decreases-add_object l = 2 * l.number + 1

-- the cells so far and those of the fields that are left
abbrev pub invariant-add_element-loop-field : goal.invariant-add_element-loop-field
invariant-add_element-loop-field l =
    l.leaves.items ++ map (under l.marked) (flat_map (field_cells l.structs) (drop l.field-index l.field-items))
    ≡ l.fn.leaves.items ++ map (under l.marked) (leaves_of l.structs l.fn.elem)

-- the cells so far and those of the elements that are left
abbrev pub invariant-add_object-loop : goal.invariant-add_object-loop
invariant-add_object-loop l =
    l.leaves.items ++ map (under l.marked) (repeated (l.count - l.counter) (leaves_of l.structs l.elem))
    ≡ l.fn.leaves.items ++ map (under l.marked) (repeated l.count (leaves_of l.structs l.elem))
