-- Which expressions need no statement before their value: those without a call, an assignment, `&&`, `||`,
-- `?:`, `++` or `--`, and without an integer that a pointer is added to.
use Rattle.std.specs.Prelude.{Bool, true, false, ◌&&◌}
use Rattle.typed_tree.specs.declared.link.LinkStep.{LinkStep}
use Rattle.typed_tree.specs.declared.link.LinkStep.TheVariants.{MoveBy}
use Rattle.typed_tree.specs.ExpressionTree as t
use Rattle.typed_tree.specs.ExpressionTree.{ExprTree, typed, FormTree, ExprTrees, no_exprs, expr_and, LinkTrees, no_links, link_and, link, PlaceTree, place, RootTree, StepTree, StepTrees, no_steps, step_and}

abbrev pub takes_left_first : LinkStep → Bool
takes_left_first MoveBy = false
takes_left_first _ = true

abbrev mutual
  pub is_pure : ExprTree → Bool
  is_pure (typed s ty form) = is_pure_form form

  pub is_pure_form : FormTree → Bool
  is_pure_form (t.constant v) = true
  is_pure_form t.null = true
  is_pure_form (t.read p) = is_pure_place p
  is_pure_form (t.decay p) = is_pure_place p
  is_pure_form (t.address p) = is_pure_place p
  is_pure_form (t.unary op a) = is_pure a
  is_pure_form (t.convert a) = is_pure a
  is_pure_form (t.chain a links) = is_pure a && are_pure_links links
  is_pure_form _ = false

  pub are_pure_links : LinkTrees → Bool
  are_pure_links no_links = true
  are_pure_links (link_and (link s ty step e) rest) = (takes_left_first step && is_pure e) && are_pure_links rest

  pub is_pure_place : PlaceTree → Bool
  is_pure_place (place root steps) = is_pure_root root && are_pure_steps steps

  pub is_pure_root : RootTree → Bool
  is_pure_root (t.local v) = true
  is_pure_root (t.global g) = true
  is_pure_root (t.deref e s) = is_pure e
  is_pure_root (t.assigned e) = false

  pub are_pure_steps : StepTrees → Bool
  are_pure_steps no_steps = true
  are_pure_steps (step_and (t.field k) rest) = are_pure_steps rest
  are_pure_steps (step_and (t.item e s) rest) = is_pure e && are_pure_steps rest

abbrev pub are_pure : ExprTrees → Bool
are_pure no_exprs = true
are_pure (expr_and e rest) = is_pure e && are_pure rest
