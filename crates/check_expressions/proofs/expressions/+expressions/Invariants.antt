use Rattle.std.proofs.Common.{◌≡◌, ◌++◌, drop, map}
use Rattle.pt_tree.specs.ExpressionTree as parsed
use Rattle.typed_tree.specs.ExpressionTree.{view_expr}
use Rattle.check_expressions.specs.EnvOf.{env_of}
use Rattle.check_expressions.specs.Expressions.{judge_arguments, judge_links, judge_postfixes}
use Rattle.check_expressions.specs.Views.{known, so_far}
use Rattle.check_expressions.proofs.expressions.+expressions.Given as goal

abbrev pub invariant-more_links-loop-link : goal.invariant-more_links-loop-link
invariant-more_links-loop-link l =
    let rest = judge_links (env_of l.names) l.findings.structs l.whole.span l.whole.is_logical (so_far l.far) (parsed.link_trees (map parsed.view_link (drop l.link-index l.links))) in
    let all = judge_links (env_of l.names) l.fn.findings.structs l.whole.span l.whole.is_logical (so_far l.fn.far) (parsed.link_trees (map parsed.view_link l.fn.links)) in
    record {
      far : rest.far ≡ all.far;
      structs : rest.structs ≡ all.structs;
      faults : l.findings.faults.items ++ rest.faults ≡ l.fn.findings.faults.items ++ all.faults;
    }

abbrev pub invariant-more_postfixes-loop-p : goal.invariant-more_postfixes-loop-p
invariant-more_postfixes-loop-p l =
    let rest = judge_postfixes (env_of l.names) l.findings.structs l.s l.head.callee l.head.operand.span (known l.head.operand.operand) (parsed.postfix_trees (map parsed.view_postfix (drop l.p-index l.postfixes))) in
    let all = judge_postfixes (env_of l.names) l.fn.findings.structs l.s l.fn.head.callee l.fn.head.operand.span (known l.fn.head.operand.operand) (parsed.postfix_trees (map parsed.view_postfix l.fn.postfixes)) in
    record {
      operand : rest.operand ≡ all.operand;
      structs : rest.structs ≡ all.structs;
      faults : l.findings.faults.items ++ rest.faults ≡ l.fn.findings.faults.items ++ all.faults;
    }

abbrev pub invariant-arguments-loop-n : goal.invariant-arguments-loop-n
invariant-arguments-loop-n l =
    let rest = judge_arguments (env_of l.names) l.findings.structs l.params l.n (parsed.expr_trees (map parsed.view_expr (drop l.n l.args))) in
    let all = judge_arguments (env_of l.names) l.fn.findings.structs l.params 0 (parsed.expr_trees (map parsed.view_expr l.fn.args)) in
    record {
      trees : map view_expr l.trees.items ++ rest.trees ≡ all.trees;
      structs : rest.structs ≡ all.structs;
      faults : l.findings.faults.items ++ rest.faults ≡ l.fn.findings.faults.items ++ all.faults;
    }
