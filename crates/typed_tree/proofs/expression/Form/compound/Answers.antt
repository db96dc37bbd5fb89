use Rattle.typed_tree.proofs.Rows.{view_compound}
use Rattle.typed_tree.proofs.expression.Form.compound.Goals as goal

pub returns : goal.returns
returns c = view_compound c.args.place c.args.at c.args.step c.args.operand c.in_ok-new.field-0 c.in_ok-new.ensures.ok
