use Rattle.std.proofs.Common.{ap, length}
use Rattle.lowering.specs.Names.{code_in}
use Rattle.c_lower.proofs.FunctionLemmas.{function_is}
use Rattle.typed_tree.specs.StatementTree.{view_body}
use Rattle.typed_tree.specs.TypedTree.{view_function}
use Rattle.typed_tree.specs.TypedView.{view_typed}
use Rattle.c_lower.proofs.functions.lower_body.Goals as goal

pub returns : goal.returns
returns c =
    function_is (view_typed c.args.program.now) (view_function c.args.function.now) (code_in c.names_of-names.result) (view_body c.args.body.now) _ _ _ _ _ _ _ _ c.names_of-names.ensures.code c.as_slice-variables.ensures (ap length c.names_of-names.ensures.variables) c.in_ok-made.ensures
    c.in_ok-vars.ensures c.deref.ensures.value (ap length c.as_slice-params.ensures) c.brace_of.ensures
