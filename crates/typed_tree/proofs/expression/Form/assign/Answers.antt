use Rattle.typed_tree.proofs.Rows.{view_assign}
use Rattle.typed_tree.proofs.expression.Form.assign.Goals as goal

pub returns : goal.returns
returns c = view_assign c.args.place c.args.value c.in_ok-new.field-0 c.in_ok-new.ensures.ok
