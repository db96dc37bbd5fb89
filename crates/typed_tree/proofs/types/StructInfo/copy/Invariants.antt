use Rattle.std.proofs.Common.{◌≡◌, ◌++◌, drop}
use Rattle.typed_tree.proofs.types.StructInfo.copy.Given as goal

-- the copies so far, and then the other fields, are all fields
abbrev pub invariant-loop-field : goal.invariant-loop-field
invariant-loop-field l = l.fields.items ++ drop l.field-index l.field-items ≡ l.self.fields
