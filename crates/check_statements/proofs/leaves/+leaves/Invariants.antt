use Rattle.std.proofs.Common.{◌≡◌, ◌++◌, ◌+◌, ◌*◌, ◌-◌, take, flat_map}
use Rattle.check_statements.specs.Leaves as is
use Rattle.check_statements.proofs.leaves.+leaves.Given as goal

abbrev pub decreases-add_object : goal.decreases-add_object
decreases-add_object l = 5 * l.depth + 3

abbrev pub decreases-add_elements : goal.decreases-add_elements
decreases-add_elements l = 5 * l.depth + 2

abbrev pub decreases-add_element : goal.decreases-add_element
decreases-add_element l = 5 * l.depth + 1

abbrev pub decreases-add_struct : goal.decreases-add_struct
decreases-add_struct l = 5 * l.depth

abbrev pub decreases-add_field : goal.decreases-add_field
decreases-add_field l = 5 * l.depth + 4

abbrev pub invariant-add_struct-loop-field : goal.invariant-add_struct-loop-field
invariant-add_struct-loop-field l = record {
  can : (goal.iterator-add_struct-loop-field).can_next l.field-iterator;
  ends : (goal.iterator-add_struct-loop-field).is_finite l.field-iterator;
  leaves : take l.wanted (l.leaves.items ++ flat_map (λ f. is.field_leaves (is.struct_leaves (l.depth - 1) l.structs) l.structs f) l.field-iterator) ≡ take l.wanted (l.fn.leaves.items ++ is.struct_leaves l.depth l.structs l.n);
}
