use Rattle.pt_tree.proofs.ListsInTrees.{view_block_stmt}
use Rattle.pt_tree.proofs.statement.Stmt.braces.Goals as goal

pub returns : goal.returns
returns c = view_block_stmt c.args.inner
