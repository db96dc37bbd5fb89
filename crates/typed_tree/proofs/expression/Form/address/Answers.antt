use Rattle.typed_tree.proofs.Rows.{view_address}
use Rattle.typed_tree.proofs.expression.Form.address.Goals as goal

pub returns : goal.returns
returns c = view_address c.args.place
