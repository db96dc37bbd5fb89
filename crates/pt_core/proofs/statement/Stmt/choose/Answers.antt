use Rattle.pt_core.proofs.Rows.{view_choose}
use Rattle.pt_core.proofs.statement.Stmt.choose.Goals as goal

pub returns : goal.returns
returns c = view_choose c.args.cond c.args.yes c.args.no
