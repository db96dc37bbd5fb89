-- Where null stands in typed programs: C writes it as the constant 0, which is a pointer only where another type
-- asks for one.
use Rattle.std.specs.Prelude.{Bool, true, false, ◌&&◌, ◌||◌, not, if◌then◌else◌}
use Rattle.std.specs.List.{list_all}
use Rattle.typed_tree.specs.declared.link.LinkStep.{LinkStep}
use Rattle.typed_tree.specs.declared.link.LinkStep.TheVariants.{Arithmetic, Shift, Move, MoveBy, Difference, Compare}
use Rattle.typed_tree.specs.ExpressionTree.{ExprTree, typed, FormTree, constant, null, read, decay, address, unary, convert, discard, chain, logical, choice, assign, compound, step, call, ExprTrees, no_exprs, expr_and, LinkTrees, no_links, link_and, link, OperandTrees, no_operands, operand_and, operand, PlaceTree, place, RootTree, local, global, deref, assigned, StepTrees, no_steps, step_and, field, item}
use Rattle.typed_tree.specs.TypedTree.{TypedTree}

abbrev pub is_null_form : FormTree → Bool
is_null_form null = true
is_null_form _ = false

abbrev pub is_null : ExprTree → Bool
is_null (typed s ty form) = is_null_form form

abbrev pub is_compared : LinkStep → Bool
is_compared (Arithmetic op t) = false
is_compared (Shift left) = false
is_compared (Move back) = false
is_compared MoveBy = false
is_compared Difference = false
is_compared (Compare op) = true

abbrev mutual
  -- The expression isn't null, and null stands in it only where it is stored, passed, an arm of a choice, or
  -- compared with what isn't null.
  pub stands : ExprTree → Bool
  stands (typed s ty form) = form_stands form

  pub form_stands : FormTree → Bool
  form_stands (constant v) = true
  form_stands null = false
  form_stands (read p) = place_stands p
  form_stands (decay p) = place_stands p
  form_stands (address p) = place_stands p
  form_stands (unary op a) = stands a
  form_stands (convert a) = stands a
  form_stands (discard a) = stands a
  form_stands (chain a ls) = (is_null a || stands a) && links_stand (is_null a) ls
  form_stands (logical op a os) = stands a && operands_stand os
  form_stands (choice a b c) = stands a && ((is_null b || stands b) && (is_null c || stands c))
  form_stands (assign p a) = place_stands p && (is_null a || stands a)
  form_stands (compound p at op a) = place_stands p && stands a
  form_stands (step p at back postfix) = place_stands p
  form_stands (call g arguments) = arguments_stand arguments

  pub arguments_stand : ExprTrees → Bool
  arguments_stand no_exprs = true
  arguments_stand (expr_and a rest) = (is_null a || stands a) && arguments_stand rest

  -- the links of a chain, behind null where the first holds
  pub links_stand : Bool → LinkTrees → Bool
  links_stand behind_null no_links = not behind_null
  links_stand behind_null (link_and (link s ty op a) rest) =
      (if is_compared op then stands a || (not behind_null && is_null a) else not behind_null && stands a) && links_stand false rest

  pub operands_stand : OperandTrees → Bool
  operands_stand no_operands = true
  operands_stand (operand_and (operand s a) rest) = stands a && operands_stand rest

  pub place_stands : PlaceTree → Bool
  place_stands (place root steps) = root_stands root && steps_stand steps

  pub root_stands : RootTree → Bool
  root_stands (local v) = true
  root_stands (global g) = true
  root_stands (deref a s) = stands a
  root_stands (assigned a) = stands a

  pub steps_stand : StepTrees → Bool
  steps_stand no_steps = true
  steps_stand (step_and (field k) rest) = steps_stand rest
  steps_stand (step_and (item a s) rest) = stands a && steps_stand rest

-- null, or an expression that stands: what initialises, is tested or is dropped
abbrev pub is_placed : ExprTree → Bool
is_placed a = is_null a || stands a

-- in each outermost expression null stands only where C can say it
abbrev pub nulls_stand : TypedTree → Bool
nulls_stand t = list_all is_placed t.exprs
