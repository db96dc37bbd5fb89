use Rattle.pt_tree.proofs.ListsInTrees.{view_call}
use Rattle.pt_tree.proofs.expression.Postfix.called.Goals as goal

pub returns : goal.returns
returns c = view_call c.args.span c.args.arguments
