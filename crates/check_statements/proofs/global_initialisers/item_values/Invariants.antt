use Rattle.std.proofs.Common.{◌≡◌, ◌++◌, map, drop}
use Rattle.pt_tree.specs.ExpressionTree.{view_expr, expr_trees}
use Rattle.check_expressions.specs.EnvOf.{env_of}
use Rattle.check_statements.specs.GlobalInitialisers as is
use Rattle.check_statements.proofs.global_initialisers.item_values.Given as goal

abbrev pub invariant-loop-e : goal.invariant-loop-e
invariant-loop-e l =
    let rest = is.global_items (env_of l.names) l.findings.structs l.leaves l.counts l.n (expr_trees (map view_expr (drop l.e-index l.es))) in
    let all = is.global_items (env_of l.names) l.fn.findings.structs l.leaves l.is_counted 0 (expr_trees (map view_expr l.fn.es)) in
    record {
      number : l.n ≡ l.e-index;
      values : l.values.items ++ rest.values ≡ all.values;
      structs : rest.structs ≡ all.structs;
      faults : l.findings.faults.items ++ rest.faults ≡ l.fn.findings.faults.items ++ all.faults;
    }
