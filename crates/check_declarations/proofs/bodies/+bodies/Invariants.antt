use Rattle.std.proofs.Common.{◌≡◌, ◌++◌, [], drop}
use Rattle.pt_tree.specs.SpecifierTree.{view_specs}
use Rattle.check_declarations.specs.Specifiers as is
use Rattle.check_declarations.proofs.bodies.+bodies.Given as goal

abbrev pub invariant-named_types-loop-spec : goal.invariant-named_types-loop-spec
invariant-named_types-loop-spec l =
    let rest = is.named_by_all l.at_file l.first l.findings.structs (view_specs (drop l.spec-index l.specs)) in
    let all = is.named_types l.fn.at_file l.fn.findings.structs (view_specs l.fn.specs) in
    record {
      types : l.types.items ++ rest.types ≡ all.types;
      structs : rest.structs ≡ all.structs;
      faults : l.findings.faults.items ++ rest.faults ≡ l.fn.findings.faults.items ++ all.faults;
    }

abbrev pub invariant-fields_of-loop-declaration : goal.invariant-fields_of-loop-declaration
invariant-fields_of-loop-declaration l =
    let rest = is.body_of l.findings.structs l.fields (is.view_body (drop l.declaration-index l.body)) in
    let all = is.body_of l.fn.findings.structs [] (is.view_body l.fn.body) in
    record {
      structs : rest.structs ≡ all.structs;
      fields : rest.fields ≡ all.fields;
      faults : l.findings.faults.items ++ rest.faults ≡ l.fn.findings.faults.items ++ all.faults;
    }
