use Rattle.std.proofs.Common.{◌≡◌, ◌++◌, drop}
use Rattle.core_code.specs.Starts.{starts_from}
use Rattle.core_code.proofs.struct_layout.starts_of_fields.Given as goal

-- the starts so far, and then those of the other fields, are all
abbrev pub invariant-loop-field : goal.invariant-loop-field
invariant-loop-field l = l.starts.items ++ starts_from l.sizes l.cells (drop l.field-index l.fields) ≡ starts_from l.fn.sizes 0 l.fn.fields
