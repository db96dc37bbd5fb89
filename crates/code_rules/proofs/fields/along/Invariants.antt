use Rattle.std.proofs.Common.{◌≡◌, Some, drop}
use Rattle.code_rules.specs.Parts.{along}
use Rattle.code_rules.proofs.fields.along.Given as goal

-- from where it has come the rest leads where the whole leads
abbrev pub invariant-loop-field : goal.invariant-loop-field
invariant-loop-field l = along l.structs (Some l.ty) (drop l.field-index l.path) ≡ along l.fn.structs l.fn.whole l.fn.path
