use Rattle.typed_tree.proofs.Rows.{view_chain}
use Rattle.typed_tree.proofs.expression.Form.chain.Goals as goal

pub returns : goal.returns
returns c = view_chain c.args.first c.args.links c.in_ok-new.field-0 c.in_ok-new.ensures.ok
