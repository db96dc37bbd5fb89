use Rattle.std.proofs.Common.{◌≡◌, ◌++◌, map, drop}
use Rattle.pt_tree.specs.StatementTree.{view_init_declarator}
use Rattle.typed_tree.specs.ExpressionTree.{view_expr}
use Rattle.check_statements.specs.Declarations as is
use Rattle.check_statements.specs.Gives.{state_of}
use Rattle.check_statements.proofs.declarations.declared_all.Given as goal

abbrev pub invariant-loop-d : goal.invariant-loop-d
invariant-loop-d l =
    let rest = is.declared_all l.given (state_of l.names l.walk) (map view_init_declarator (drop l.d-index l.ds)) in
    let all = is.declared_all l.given (state_of l.fn.names l.fn.walk) (map view_init_declarator l.fn.ds) in
    record {
      declarators : l.declarators.items ++ rest.declarators ≡ all.declarators;
      state : rest.state ≡ all.state;
      trees : map view_expr l.walk.exprs.items ++ rest.trees ≡ map view_expr l.fn.walk.exprs.items ++ all.trees;
      faults : l.walk.findings.faults.items ++ rest.faults ≡ l.fn.walk.findings.faults.items ++ all.faults;
    }
