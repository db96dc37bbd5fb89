-- Which expressions an expression or a body consists of, at any depth.
use Rattle.std.specs.Prelude.{List, [], ◌∷◌, ◌++◌, Option, None, Some, slice_get}
use Rattle.pt_base.specs.declared.ids.FnId.{FnId}
use Rattle.pt_base.specs.declared.span.Span.{Span}
use Rattle.typed_tree.specs.declared.part.Part.{Part}
use Rattle.typed_tree.specs.declared.types.VarTy.{VarTy}
use Rattle.typed_tree.specs.ExpressionTree.{ExprTree, FormTree, ExprTrees, LinkTrees, OperandTrees, PlaceTree, RootTree, StepTrees, typed, constant, null, read, decay, address, unary, convert, discard, chain, logical, choice, assign, compound, step, call, no_exprs, expr_and, link, no_links, link_and, operand, no_operands, operand_and, place, local, global, deref, assigned, field, item, no_steps, step_and}
use Rattle.typed_tree.specs.TypedTree.{TypedTree}
use Rattle.typed_tree.specs.Lookup.{parts_in}

-- ---- of which expressions a form is made, in the order of the text

abbrev pub arguments_in : ExprTrees → List ExprTree
arguments_in no_exprs = []
arguments_in (expr_and a rest) = a ∷ arguments_in rest

abbrev pub links_in : LinkTrees → List ExprTree
links_in no_links = []
links_in (link_and (link s ty op a) rest) = a ∷ links_in rest

abbrev pub operands_in : OperandTrees → List ExprTree
operands_in no_operands = []
operands_in (operand_and (operand s a) rest) = a ∷ operands_in rest

abbrev pub root_in : RootTree → List ExprTree
root_in (local v) = []
root_in (global g) = []
root_in (deref a s) = a ∷ []
root_in (assigned a) = a ∷ []

abbrev pub indices_in : StepTrees → List ExprTree
indices_in no_steps = []
indices_in (step_and (field k) rest) = indices_in rest
indices_in (step_and (item a s) rest) = a ∷ indices_in rest

abbrev pub place_in : PlaceTree → List ExprTree
place_in (place r ss) = root_in r ++ indices_in ss

abbrev pub made_of : FormTree → List ExprTree
made_of (constant v) = []
made_of null = []
made_of (read p) = place_in p
made_of (decay p) = place_in p
made_of (address p) = place_in p
made_of (unary op a) = a ∷ []
made_of (convert a) = a ∷ []
made_of (discard a) = a ∷ []
made_of (chain a ls) = a ∷ links_in ls
made_of (logical op a os) = a ∷ operands_in os
made_of (choice a b c) = a ∷ (b ∷ (c ∷ []))
made_of (assign p a) = place_in p ++ (a ∷ [])
made_of (compound p at op a) = place_in p ++ (a ∷ [])
made_of (step p at back postfix) = place_in p
made_of (call g arguments) = arguments_in arguments

-- ---- at any depth

mutual
  -- The list has the expression, and all that it is made of, at any depth: each as often as it stands there, and
  -- behind what it is made of.
  pub data AreExpressionsOf : ExprTree → List ExprTree → Type 0 where
    whole : (s : Span) (t : Option VarTy) (f : FormTree) (xs : List ExprTree) → AreExpressionsOfAll (made_of f) xs → AreExpressionsOf (typed s t f) (xs ++ (typed s t f ∷ []))

  -- the same of each of these
  pub data AreExpressionsOfAll : List ExprTree → List ExprTree → Type 0 where
    nothing : AreExpressionsOfAll [] []
    both : (e : ExprTree) (es : List ExprTree) (xs ys : List ExprTree) → AreExpressionsOf e xs → AreExpressionsOfAll es ys → AreExpressionsOfAll (e ∷ es) (xs ++ ys)

-- ---- of a body

abbrev pub named : Option ExprTree → List ExprTree
named None = []
named (Some e) = e ∷ []

abbrev pub outermost_of : List ExprTree → List Part → List ExprTree
outermost_of exprs [] = []
outermost_of exprs (p ∷ ps) = named (slice_get exprs p.expr.0) ++ outermost_of exprs ps

-- the outermost expressions of a function's body, in the order of the text; none, of a host
abbrev pub outermost : TypedTree → FnId → List ExprTree
outermost t f = outermost_of t.exprs (parts_in t f)
