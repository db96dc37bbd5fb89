use Rattle.std.proofs.Common.{◌≡◌, ◌++◌, map, drop}
use Rattle.pt_tree.specs.StatementTree.{view_stmt, view_section, stmt_trees, section_trees}
use Rattle.typed_tree.specs.ExpressionTree.{view_expr}
use Rattle.typed_tree.specs.StatementTree as typed
use Rattle.check_statements.specs.Gives.{state_of}
use Rattle.check_statements.specs.Labels.{none_seen}
use Rattle.check_statements.specs.Seen.{seen_of}
use Rattle.check_statements.specs.Statements as is
use Rattle.check_statements.proofs.statements.+statements.Given as goal

abbrev pub invariant-statements-loop-s : goal.invariant-statements-loop-s
invariant-statements-loop-s l =
    let rest = is.checked_all l.context (state_of l.names l.walk) (stmt_trees (map view_stmt (drop l.s-index l.items))) in
    let all = is.checked_all l.fn.context (state_of l.fn.names l.fn.walk) (stmt_trees (map view_stmt l.fn.items)) in
    record {
      bodies : map typed.view_body l.bodies.items ++ rest.bodies ≡ all.bodies;
      state : rest.state ≡ all.state;
      trees : map view_expr l.walk.exprs.items ++ rest.trees ≡ map view_expr l.fn.walk.exprs.items ++ all.trees;
      faults : l.walk.findings.faults.items ++ rest.faults ≡ l.fn.walk.findings.faults.items ++ all.faults;
    }

abbrev pub invariant-sections-loop-part : goal.invariant-sections-loop-part
invariant-sections-loop-part l =
    let rest = is.checked_sections l.context l.kind (seen_of l.seen) (state_of l.names l.walk) (section_trees (map view_section (drop l.part-index l.parts))) in
    let all = is.checked_sections l.fn.context l.fn.kind none_seen (state_of l.fn.names l.fn.walk) (section_trees (map view_section l.fn.parts)) in
    record {
      sections : map typed.view_section l.typed.items ++ rest.sections ≡ all.sections;
      state : rest.state ≡ all.state;
      trees : map view_expr l.walk.exprs.items ++ rest.trees ≡ map view_expr l.fn.walk.exprs.items ++ all.trees;
      faults : l.walk.findings.faults.items ++ rest.faults ≡ l.fn.walk.findings.faults.items ++ all.faults;
    }
