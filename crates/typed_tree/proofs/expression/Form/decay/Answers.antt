use Rattle.typed_tree.proofs.Rows.{view_decay}
use Rattle.typed_tree.proofs.expression.Form.decay.Goals as goal

pub returns : goal.returns
returns c = view_decay c.args.place
