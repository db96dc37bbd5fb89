use Rattle.typed_tree.proofs.Rows.{view_block}
use Rattle.typed_tree.proofs.statement.TypedBody.block.Goals as goal

pub returns : goal.returns
returns c = view_block c.args.span c.args.statements
