use Rattle.std.proofs.Common.{◌≡◌, ◌++◌, drop}
use Rattle.std.specs.List.{flat_map}
use Rattle.typed_tree.specs.Cells.{object_leaves}
use Rattle.typed_tree.specs.declared.types.Field.{Field}
use Rattle.core_machine.proofs.leaves.struct_leaves.Given as goal

abbrev pub invariant-loop-field : goal.invariant-loop-field
invariant-loop-field l =
    l.leaves.items ++ flat_map (λ (f : Field). object_leaves l.known f.ty) (drop l.field-index l.fields) ≡ flat_map (λ (f : Field). object_leaves l.fn.known f.ty) l.fn.fields
