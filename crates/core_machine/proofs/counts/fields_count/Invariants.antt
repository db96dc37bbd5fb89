use Rattle.std.proofs.Common.{◌≡◌, ◌+◌, length, drop}
use Rattle.std.specs.List.{flat_map}
use Rattle.typed_tree.specs.Cells.{object_leaves}
use Rattle.typed_tree.specs.declared.types.Field.{Field}
use Rattle.core_machine.proofs.counts.fields_count.Given as goal

abbrev pub invariant-loop-field : goal.invariant-loop-field
invariant-loop-field l =
    l.count + length (flat_map (λ (f : Field). object_leaves l.known f.ty) (drop l.field-index l.fields)) ≡ length (flat_map (λ (f : Field). object_leaves l.fn.known f.ty) l.fn.fields)
