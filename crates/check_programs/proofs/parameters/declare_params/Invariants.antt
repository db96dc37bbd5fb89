use Rattle.std.proofs.Common.{◌≡◌, ◌++◌, drop, map}
use Rattle.pt_tree.specs.ProgramTree.{view_param}
use Rattle.check_expressions.specs.EnvOf.{env_of}
use Rattle.check_programs.specs.Parameters as is
use Rattle.check_programs.proofs.parameters.declare_params.Given as goal

abbrev pub invariant-loop-param : goal.invariant-loop-param
invariant-loop-param l =
    let rest = is.declared_all l.marks l.defines (env_of l.names) l.findings.structs (map view_param (drop l.param-index l.params)) in
    let all = is.declared_all l.fn.marks l.fn.defines (env_of l.fn.names) l.fn.findings.structs (map view_param l.fn.params) in
    record {
      env : rest.env ≡ all.env;
      structs : rest.structs ≡ all.structs;
      faults : l.findings.faults.items ++ rest.faults ≡ l.fn.findings.faults.items ++ all.faults;
    }
