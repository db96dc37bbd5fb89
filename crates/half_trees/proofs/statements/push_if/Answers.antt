use Rattle.std.proofs.Common.{◌≡◌, ◌++◌, ◌∷◌, ◌∙◌, [], map, subst, sym}
use Rattle.std.specs.Result.{OnOk}
use Rattle.pt_tree.specs.ExpressionTree.{view_expr}
use Rattle.pt_tree.specs.StatementTree as tree
use Rattle.half_trees.specs.Names.{nowhere}
use Rattle.half_trees.specs.Statements.{braced}
use Rattle.half_trees.proofs.StatementLemmas.{else_some}
use Rattle.half_trees.proofs.statements.push_if.Goals as goal

pub returns : goal.returns
returns c =
    let is = else_some c.args.no.now (map tree.view_stmt c.args.second.items) (sym c.is_empty.ensures ∙ c.if-is_empty.false) in
    subst (λ x. OnOk c.push_choice.result (map tree.view_stmt c.push_choice.new.out.items ≡ map tree.view_stmt c.args.out.now.items ++ tree.choose nowhere (view_expr c.args.test) (braced (map tree.view_stmt c.args.first.items)) x ∷ [])) is c.push_choice.ensures
