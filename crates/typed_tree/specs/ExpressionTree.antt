-- Typed expressions without where their parts lie in memory.
use Rattle.std.specs.Prelude.{ℕ, ℤ, List, [], ◌∷◌, Option, Bool, map}
use Rattle.pt_base.specs.declared.span.Span.{Span}
use Rattle.pt_base.specs.declared.ids.FnId.{FnId}
use Rattle.pt_base.specs.declared.ids.VarId.{VarId}
use Rattle.pt_base.specs.declared.ids.GlobalId.{GlobalId}
use Rattle.pt_int.specs.declared.operator.UnOp.{UnOp}
use Rattle.typed_tree.specs.declared.types.VarTy.{VarTy}
use Rattle.typed_tree.specs.declared.link.LinkStep.{LinkStep}
use Rattle.typed_tree.specs.declared.link.LogicalOp.{LogicalOp}
use Rattle.typed_tree.specs.declared.link.TypedLink.{TypedLink}
use Rattle.typed_tree.specs.declared.link.TypedOperand.{TypedOperand}
use Rattle.typed_tree.specs.declared.place.Place.{Place}
use Rattle.typed_tree.specs.declared.place.Root.{Root}
use Rattle.typed_tree.specs.declared.place.Root.TheVariants as r
use Rattle.typed_tree.specs.declared.place.PlaceStep.{PlaceStep}
use Rattle.typed_tree.specs.declared.place.PlaceStep.TheVariants as p
use Rattle.typed_tree.specs.declared.expression.TypedExpr.{TypedExpr}
use Rattle.typed_tree.specs.declared.expression.Form.{Form, Row_of-PlaceStep, end_of-PlaceStep, more_of-PlaceStep, Row_of-TypedExpr, end_of-TypedExpr, more_of-TypedExpr, Row_of-TypedLink, end_of-TypedLink, more_of-TypedLink, Row_of-TypedOperand, end_of-TypedOperand, more_of-TypedOperand}
use Rattle.typed_tree.specs.declared.expression.Form.TheVariants as f

mutual
  -- its span, its type (None is void) and what it does
  pub data ExprTree : Type 0 where
    typed : Span → Option VarTy → FormTree → ExprTree

  pub data FormTree : Type 0 where
    constant : ℤ → FormTree
    null : FormTree
    read : PlaceTree → FormTree
    decay : PlaceTree → FormTree
    address : PlaceTree → FormTree
    unary : UnOp → ExprTree → FormTree
    convert : ExprTree → FormTree
    discard : ExprTree → FormTree
    chain : ExprTree → LinkTrees → FormTree
    logical : LogicalOp → ExprTree → OperandTrees → FormTree
    choice : ExprTree → ExprTree → ExprTree → FormTree
    assign : PlaceTree → ExprTree → FormTree
    -- the span is that of the place alone
    compound : PlaceTree → Span → LinkStep → ExprTree → FormTree
    -- where the place stands, whether it is --, and whether it stands behind its operand
    step : PlaceTree → Span → Bool → Bool → FormTree
    call : FnId → ExprTrees → FormTree

  pub data ExprTrees : Type 0 where
    no_exprs : ExprTrees
    expr_and : ExprTree → ExprTrees → ExprTrees

  pub data LinkTree : Type 0 where
    link : Span → VarTy → LinkStep → ExprTree → LinkTree

  pub data LinkTrees : Type 0 where
    no_links : LinkTrees
    link_and : LinkTree → LinkTrees → LinkTrees

  pub data OperandTree : Type 0 where
    operand : Span → ExprTree → OperandTree

  pub data OperandTrees : Type 0 where
    no_operands : OperandTrees
    operand_and : OperandTree → OperandTrees → OperandTrees

  pub data PlaceTree : Type 0 where
    place : RootTree → StepTrees → PlaceTree

  pub data RootTree : Type 0 where
    local : VarId → RootTree
    global : GlobalId → RootTree
    deref : ExprTree → Span → RootTree
    assigned : ExprTree → RootTree

  pub data StepTree : Type 0 where
    field : ℕ → StepTree
    item : ExprTree → Span → StepTree

  pub data StepTrees : Type 0 where
    no_steps : StepTrees
    step_and : StepTree → StepTrees → StepTrees

abbrev mutual
  pub view_form : Form → FormTree
  view_form (f.Constant v) = constant v
  view_form f.Null = null
  view_form (f.Read' root shape row) = read (place (view_root root) (view_step_row row))
  view_form (f.Decay' root shape row) = decay (place (view_root root) (view_step_row row))
  view_form (f.Address' root shape row) = address (place (view_root root) (view_step_row row))
  view_form (f.Unary' op p s t a) = unary op (typed s t (view_form a))
  view_form (f.Convert' p s t a) = convert (typed s t (view_form a))
  view_form (f.Discard' p s t a) = discard (typed s t (view_form a))
  view_form (f.Chain' p s t a shape row) = chain (typed s t (view_form a)) (view_link_row row)
  view_form (f.Logical' op p s t a shape row) = logical op (typed s t (view_form a)) (view_operand_row row)
  view_form (f.Choice' p s t a q u v b r w x c) = choice (typed s t (view_form a)) (typed u v (view_form b)) (typed w x (view_form c))
  view_form (f.Assign' root shape row p s t a) = assign (place (view_root root) (view_step_row row)) (typed s t (view_form a))
  view_form (f.Compound' root shape row at op p s t a) = compound (place (view_root root) (view_step_row row)) at op (typed s t (view_form a))
  view_form (f.Step' root shape row at back postfix) = step (place (view_root root) (view_step_row row)) at back postfix
  view_form (f.Call' g shape row) = call g (view_expr_row row)

  pub view_root : Root → RootTree
  view_root (r.Local v) = local v
  view_root (r.Global g) = global g
  view_root (r.Deref' p s t a span) = deref (typed s t (view_form a)) span
  view_root (r.Assigned' p s t a) = assigned (typed s t (view_form a))

  pub view_step : PlaceStep → StepTree
  view_step (p.Field n) = field n
  view_step (p.Item' s t a span) = item (typed s t (view_form a)) span

  pub view_step_row : {n : _} → Row_of-PlaceStep n → StepTrees
  view_step_row end_of-PlaceStep = no_steps
  view_step_row (more_of-PlaceStep a rest) = step_and (view_step a) (view_step_row rest)

  pub view_expr_row : {n : _} → Row_of-TypedExpr n → ExprTrees
  view_expr_row end_of-TypedExpr = no_exprs
  view_expr_row (more_of-TypedExpr s t a rest) = expr_and (typed s t (view_form a)) (view_expr_row rest)

  pub view_link_row : {n : _} → Row_of-TypedLink n → LinkTrees
  view_link_row end_of-TypedLink = no_links
  view_link_row (more_of-TypedLink span ty op s t a rest) = link_and (link span ty op (typed s t (view_form a))) (view_link_row rest)

  pub view_operand_row : {n : _} → Row_of-TypedOperand n → OperandTrees
  view_operand_row end_of-TypedOperand = no_operands
  view_operand_row (more_of-TypedOperand span s t a rest) = operand_and (operand span (typed s t (view_form a))) (view_operand_row rest)

abbrev pub view_expr : TypedExpr → ExprTree
view_expr e = typed e.span e.ty (view_form e.form)

abbrev pub view_link : TypedLink → LinkTree
view_link l = link l.span l.ty l.step (view_expr l.operand)

abbrev pub view_operand : TypedOperand → OperandTree
view_operand o = operand o.span (view_expr o.operand)

abbrev pub expr_trees : List ExprTree → ExprTrees
expr_trees [] = no_exprs
expr_trees (e ∷ es) = expr_and e (expr_trees es)

abbrev pub link_trees : List LinkTree → LinkTrees
link_trees [] = no_links
link_trees (l ∷ ls) = link_and l (link_trees ls)

abbrev pub operand_trees : List OperandTree → OperandTrees
operand_trees [] = no_operands
operand_trees (o ∷ os) = operand_and o (operand_trees os)

abbrev pub step_trees : List StepTree → StepTrees
step_trees [] = no_steps
step_trees (s ∷ ss) = step_and s (step_trees ss)

abbrev pub view_place : Place → PlaceTree
view_place p = place (view_root p.root) (step_trees (map view_step p.steps.items))
