use Rattle.std.proofs.Common.{◌≡◌, ◌++◌, drop, map}
use Rattle.check_expressions.specs.StructInfos as is
use Rattle.check_programs.proofs.structs.field_infos.Given as goal

abbrev pub invariant-loop-number : goal.invariant-loop-number
invariant-loop-number l = l.infos.items ++ map is.field_info (drop l.number l.fields) ≡ map is.field_info l.fields
