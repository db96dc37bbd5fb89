use Rattle.std.proofs.Common.{◌≡◌, ◌++◌, ◌+◌, ◌*◌, ◌-◌, ℕ, List, [], drop, map, take}
use Rattle.std.specs.List.{flat_map, range_with_len}
use Rattle.pt_tree.specs.StatementTree.{view_stmt}
use Rattle.typed_tree.specs.Sizes.{fields_of}
use Rattle.half_trees.specs.Clearing.{cleared_behind, steps, element_below, struct_at}
use Rattle.half_trees.specs.Leaves.{Leaf, behind, element, field_leaves, leaves_from}
use Rattle.half_trees.proofs.clearing.+objects.Given as goal

abbrev pub decreases-clear_object : goal.decreases-clear_object
decreases-clear_object l = 3 * l.below + 2

abbrev pub decreases-clear_element : goal.decreases-clear_element
decreases-clear_element l = 3 * l.below + 1

abbrev pub decreases-clear_struct : goal.decreases-clear_struct
decreases-clear_struct l = 3 * l.n + 3

-- the elements so far, and then the others, are all of them
abbrev pub invariant-clear_object-loop-n : goal.invariant-clear_object-loop-n
invariant-clear_object-loop-n l =
    let leaves : ℕ → List Leaf = λ n. behind (element n) (element_below l.structs l.below l.elem) in
    map view_stmt l.out.items ++ cleared_behind l.v (steps l.structs l.path) (flat_map leaves (range_with_len l.n (l.count - l.n)))
    ≡ map view_stmt l.fn.out.items ++ cleared_behind l.v (steps l.structs l.path) (flat_map leaves (range_with_len 0 l.count))

-- the fields so far, and then the others, are all of them
abbrev pub invariant-clear_struct-loop-k : goal.invariant-clear_struct-loop-k
invariant-clear_struct-loop-k l =
    map view_stmt l.out.items ++ cleared_behind l.v (steps l.structs l.path) (field_leaves (leaves_from [] (take l.n l.structs)) l.fields l.k (drop l.k l.fields))
    ≡ map view_stmt l.fn.out.items ++ cleared_behind l.v (steps l.structs l.path) (struct_at l.structs l.n)
