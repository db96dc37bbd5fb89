use Rattle.std.proofs.Common.{◌≡◌, ◌∙◌, IfOk, subst, sym}
use Rattle.pt_tree.specs.ExpressionTree.{view_expr}
use Rattle.half_trees.proofs.ChainLemmas.{begun}
use Rattle.half_trees.proofs.operators.linked.Goals as goal

pub returns-else-goes_on : goal.returns-else-goes_on
returns-else-goes_on c =
    subst (λ t. IfOk c.chain_of.result (λ e. view_expr e ≡ t)) (begun c.args.op (view_expr c.args.a) (view_expr c.args.b) (sym c.goes_on.ensures ∙ c.if-goes_on.false)) c.chain_of.ensures
