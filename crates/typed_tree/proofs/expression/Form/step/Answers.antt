use Rattle.typed_tree.proofs.Rows.{view_increment}
use Rattle.typed_tree.proofs.expression.Form.step.Goals as goal

pub returns : goal.returns
returns c = view_increment c.args.place c.args.at c.args.back c.args.postfix
