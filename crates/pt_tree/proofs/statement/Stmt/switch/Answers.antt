use Rattle.pt_tree.proofs.ListsInTrees.{view_switch}
use Rattle.pt_tree.proofs.statement.Stmt.switch.Goals as goal

pub returns : goal.returns
returns c = view_switch c.args.span c.args.on c.args.sections
