use Rattle.pt_tree.proofs.ListsInTrees.{view_chain}
use Rattle.pt_tree.proofs.expression.Expr.chained.Goals as goal

pub returns : goal.returns
returns c = view_chain c.args.span c.args.first c.args.links c.in_ok-new.field-0 c.in_ok-new.ensures.ok
