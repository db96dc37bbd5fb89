use Rattle.std.proofs.Common.{◌≡◌, ◌++◌, map, drop}
use Rattle.pt_tree.specs.ExpressionTree.{view_expr, expr_trees}
use Rattle.typed_tree.specs.ExpressionTree as typed
use Rattle.check_statements.specs.Gives.{state_of}
use Rattle.check_statements.specs.Initialisers as is
use Rattle.check_statements.proofs.initialisers.items.Given as goal

abbrev pub invariant-loop-e : goal.invariant-loop-e
invariant-loop-e l =
    let rest = is.items (state_of l.names l.walk) l.leaves l.counts l.n (expr_trees (map view_expr (drop l.e-index l.es))) in
    let all = is.items (state_of l.names l.fn.walk) l.leaves l.is_counted 0 (expr_trees (map view_expr l.fn.es)) in
    record {
      number : l.n ≡ l.e-index;
      ids : l.ids.items ++ rest.ids ≡ all.ids;
      state : rest.state ≡ all.state;
      trees : map typed.view_expr l.walk.exprs.items ++ rest.trees ≡ map typed.view_expr l.fn.walk.exprs.items ++ all.trees;
      faults : l.walk.findings.faults.items ++ rest.faults ≡ l.fn.walk.findings.faults.items ++ all.faults;
    }
