-- Expressions without where their parts lie in memory.
use Rattle.std.specs.Prelude.{List, [], ◌∷◌, Option, Bool, map}
use Rattle.pt_base.specs.declared.span.Span.{Span}
use Rattle.pt_tree.specs.declared.word.Word.{Word}
use Rattle.pt_tree.specs.declared.word.Constant.{Constant}
use Rattle.pt_tree.specs.declared.operator.BinaryOp.{BinaryOp}
use Rattle.pt_tree.specs.declared.operator.PrefixOp.{PrefixOp}
use Rattle.pt_tree.specs.declared.expression.Link.{Link}
use Rattle.pt_tree.specs.declared.expression.Postfix.{Postfix, Row_of-Expr, end_of-Expr, more_of-Expr}
use Rattle.pt_tree.specs.declared.expression.Expr.{Expr, Row_of-Link, end_of-Link, more_of-Link, Row_of-Postfix, end_of-Postfix, more_of-Postfix}
use Rattle.pt_tree.specs.declared.expression.Expr.TheVariants as e
use Rattle.pt_tree.specs.declared.expression.Postfix.TheVariants as p
use Rattle.pt_tree.specs.SpecifierTree.{SpecTrees, view_spec, spec_trees}

mutual
  pub data ExprTree : Type 0 where
    name : Word → ExprTree
    constant : Constant → ExprTree
    prefix : Span → PrefixOp → ExprTree → ExprTree
    cast : Span → SpecTrees → Bool → ExprTree → ExprTree
    postfix : Span → ExprTree → PostfixTrees → ExprTree
    chain : Span → ExprTree → LinkTrees → ExprTree
    choice : Span → ExprTree → ExprTree → ExprTree → ExprTree
    assign : Span → Option BinaryOp → ExprTree → ExprTree → ExprTree

  pub data ExprTrees : Type 0 where
    no_exprs : ExprTrees
    expr_and : ExprTree → ExprTrees → ExprTrees

  pub data LinkTree : Type 0 where
    link : Span → BinaryOp → ExprTree → LinkTree

  pub data LinkTrees : Type 0 where
    no_links : LinkTrees
    link_and : LinkTree → LinkTrees → LinkTrees

  pub data PostfixTree : Type 0 where
    index : Span → ExprTree → PostfixTree
    call : Span → ExprTrees → PostfixTree
    dot : Span → Word → PostfixTree
    arrow : Span → Word → PostfixTree
    increment : Span → PostfixTree
    decrement : Span → PostfixTree

  pub data PostfixTrees : Type 0 where
    no_postfixes : PostfixTrees
    postfix_and : PostfixTree → PostfixTrees → PostfixTrees

abbrev mutual
  pub view_expr : Expr → ExprTree
  view_expr (e.Name w) = name w
  view_expr (e.Constant c) = constant c
  view_expr (e.Prefix' s op p a) = prefix s op (view_expr a)
  view_expr (e.Cast' s specs pointer p a) = cast s (spec_trees (map view_spec specs.items)) pointer (view_expr a)
  view_expr (e.Postfix' s p a shape row) = postfix s (view_expr a) (view_postfix_row row)
  view_expr (e.Chain' s p a shape row) = chain s (view_expr a) (view_link_row row)
  view_expr (e.Choice' s p a q b r c) = choice s (view_expr a) (view_expr b) (view_expr c)
  view_expr (e.Assign' s op p a q b) = assign s op (view_expr a) (view_expr b)

  pub view_expr_row : {n : _} → Row_of-Expr n → ExprTrees
  view_expr_row end_of-Expr = no_exprs
  view_expr_row (more_of-Expr e rest) = expr_and (view_expr e) (view_expr_row rest)

  pub view_link_row : {n : _} → Row_of-Link n → LinkTrees
  view_link_row end_of-Link = no_links
  view_link_row (more_of-Link s op e rest) = link_and (link s op (view_expr e)) (view_link_row rest)

  pub view_postfix : Postfix → PostfixTree
  view_postfix (p.Index s e) = index s (view_expr e)
  view_postfix (p.Call' s shape row) = call s (view_expr_row row)
  view_postfix (p.Field s w) = dot s w
  view_postfix (p.Arrow s w) = arrow s w
  view_postfix (p.Increment s) = increment s
  view_postfix (p.Decrement s) = decrement s

  pub view_postfix_row : {n : _} → Row_of-Postfix n → PostfixTrees
  view_postfix_row end_of-Postfix = no_postfixes
  view_postfix_row (more_of-Postfix p rest) = postfix_and (view_postfix p) (view_postfix_row rest)

abbrev pub view_link : Link → LinkTree
view_link l = link l.span l.op (view_expr l.operand)

abbrev pub expr_trees : List ExprTree → ExprTrees
expr_trees [] = no_exprs
expr_trees (e ∷ es) = expr_and e (expr_trees es)

abbrev pub link_trees : List LinkTree → LinkTrees
link_trees [] = no_links
link_trees (l ∷ ls) = link_and l (link_trees ls)

abbrev pub postfix_trees : List PostfixTree → PostfixTrees
postfix_trees [] = no_postfixes
postfix_trees (p ∷ ps) = postfix_and p (postfix_trees ps)
