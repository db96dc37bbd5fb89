use Rattle.typed_tree.proofs.Rows.{view_call}
use Rattle.typed_tree.proofs.expression.Form.call.Goals as goal

pub returns : goal.returns
returns c = view_call c.args.callee c.args.arguments
