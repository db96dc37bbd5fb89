use Rattle.typed_tree.proofs.Rows.{view_switch}
use Rattle.typed_tree.proofs.statement.TypedBody.switch.Goals as goal

pub returns : goal.returns
returns c = view_switch c.args.span c.args.on c.args.ty c.args.sections
