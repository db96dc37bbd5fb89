use Rattle.pt_tree.proofs.ListsInTrees.{view_postfixes}
use Rattle.pt_tree.proofs.expression.Expr.with_postfixes.Goals as goal

pub returns : goal.returns
returns c = view_postfixes c.args.span c.args.operand c.args.postfixes c.in_ok-new.field-0 c.in_ok-new.ensures.ok
