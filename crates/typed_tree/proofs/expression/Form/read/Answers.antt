use Rattle.typed_tree.proofs.Rows.{view_read}
use Rattle.typed_tree.proofs.expression.Form.read.Goals as goal

pub returns : goal.returns
returns c = view_read c.args.place
