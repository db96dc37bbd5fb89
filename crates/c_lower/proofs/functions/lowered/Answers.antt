use Rattle.typed_tree.specs.StatementTree.{view_body}
use Rattle.lowering.specs.Names.{code_in}
use Rattle.c_lower.proofs.FunctionLemmas.{made_from}
use Rattle.c_lower.proofs.functions.lowered.Goals as goal

pub returns : goal.returns
returns c = made_from (code_in c.args.names.now) (view_body c.args.body.now) _ _ _ _ _ c.starting-lowering.ensures c.in_ok-statement.ensures c.in_ok-end_main.ensures
