use Rattle.pt_core.proofs.Rows.{view_repeat}
use Rattle.pt_core.proofs.statement.Stmt.repeat.Goals as goal

pub returns : goal.returns
returns c = view_repeat c.args.body c.args.span
