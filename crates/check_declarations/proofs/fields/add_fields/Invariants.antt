use Rattle.std.proofs.Common.{◌≡◌, ◌++◌, drop}
use Rattle.check_declarations.specs.Fields as is
use Rattle.check_declarations.proofs.fields.add_fields.Given as goal

abbrev pub invariant-loop-declarator : goal.invariant-loop-declarator
invariant-loop-declarator l =
    let rest = is.declared l.structs l.given l.fields (drop l.declarator-index l.declarators) in
    let all = is.declared l.fn.structs l.fn.given l.fn.fields l.fn.declarators in
    record {
      fields : rest.fields ≡ all.fields;
      faults : l.faults.items ++ rest.faults ≡ l.fn.faults.items ++ all.faults;
    }
