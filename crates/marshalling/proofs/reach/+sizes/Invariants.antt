use Rattle.std.proofs.Common.{◌≡◌, ◌≤◌, ◌+◌, ◌*◌, drop, length}
use Rattle.std.specs.List.{flat_map}
use Rattle.marshalling.specs.Leaves.{field_cells, leaves_of}
use Rattle.marshalling.proofs.LeafLemmas.{rank}
use Rattle.marshalling.proofs.reach.+sizes.Given as goal

abbrev pub decreases-element_size : goal.decreases-element_size
decreases-element_size l = 2 * rank l.elem

abbrev pub decreases-object_size : goal.decreases-object_size
decreases-object_size l = 2 * l.number + 1

-- the cells so far and those of the fields that are left
abbrev pub invariant-element_size-loop-field : goal.invariant-element_size-loop-field
invariant-element_size-loop-field l =
    (l.size + length (flat_map (field_cells l.structs) (drop l.field-index l.field-items)) ≡ length (leaves_of l.structs l.fn.elem)) × (l.size ≤ l.fn.most)
