-- What a parsed variant with a list is seen as: the list of its items.
use Rattle.std.proofs.Common.{◌≡◌, refl, map}
use Rattle.std.specs.Prelude.{Box, Vec}
use Rattle.std.specs.declared.alloc.Global.{Global}
use Rattle.pt_base.specs.declared.span.Span.{Span}
use Rattle.pt_tree.specs.declared.expression.Expr.{Expr}
use Rattle.pt_tree.specs.declared.expression.Expr.TheVariants as e
use Rattle.pt_tree.specs.declared.expression.Link.{Link}
use Rattle.pt_tree.specs.declared.expression.Postfix.{Postfix}
use Rattle.pt_tree.specs.declared.expression.Postfix.TheVariants as p
use Rattle.pt_tree.specs.ExpressionTree.{postfix, chain, view_expr, view_link, view_postfix, link_trees, postfix_trees}
use Rattle.pt_tree.proofs.ListsInTrees as rows_of
use Rattle.pt_tree.proofs.ListsInTrees.{view_call}

pub view_postfixes : (s : Span) (q : Box Expr Global) (ps : Vec Postfix Global) → view_expr (e.Postfix s q ps) ≡ postfix s (view_expr q.value) (postfix_trees (map view_postfix ps.items))
view_postfixes s q ps = rows_of.view_postfixes s q.value ps q refl

pub view_chain : (s : Span) (q : Box Expr Global) (ls : Vec Link Global) → view_expr (e.Chain s q ls) ≡ chain s (view_expr q.value) (link_trees (map view_link ls.items))
view_chain s q ls = rows_of.view_chain s q.value ls q refl

pub ruleset rows = (view_call, view_postfixes, view_chain)
