use Rattle.std.proofs.Common.{◌≡◌, ◌++◌, drop}
use Rattle.flow_check.specs.SlotLines.{fields_text}
use Rattle.flow_check.proofs.slot_lines.push_fields.Given as goal

abbrev pub invariant-loop-number : goal.invariant-loop-number
invariant-loop-number l =
    l.lines.items ++ fields_text l.structs l.ty (drop l.number-index l.path) ≡ l.fn.lines.items ++ fields_text l.structs l.fn.ty l.fn.path
