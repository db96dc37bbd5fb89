use Rattle.typed_tree.proofs.Rows.{view_logical}
use Rattle.typed_tree.proofs.expression.Form.logical.Goals as goal

pub returns : goal.returns
returns c = view_logical c.args.op c.args.first c.args.operands c.in_ok-new.field-0 c.in_ok-new.ensures.ok
