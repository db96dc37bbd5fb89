-- The parts of the lowering of expressions that the code has functions for: one link, one operand, one step.
use Rattle.std.specs.Prelude.{ℕ, Bool, true, false, not, ◌||◌, List, Some}
use Rattle.pt_base.specs.declared.span.Span.{Span}
use Rattle.typed_tree.specs.declared.types.VarTy.{VarTy}
use Rattle.typed_tree.specs.declared.link.LogicalOp.{LogicalOp}
use Rattle.typed_tree.specs.ExpressionTree as t
use Rattle.typed_tree.specs.ExpressionTree.{typed, LinkTree, link, OperandTree, operand, RootTree, StepTree, step_trees}
use Rattle.pt_core.specs.CodeTree.{decay}
use Rattle.source_meaning.specs.Expressions.{type_of}
use Rattle.lowering.specs.Lowered.{Effects, Lowered, LoweredPlace, past, holding, effects_of, held, held_if}
use Rattle.lowering.specs.Purity.{takes_left_first, is_pure}
use Rattle.lowering.specs.Expressions.{Scope, decayed, decayed_type, element_place, field_in, fixed_if, value_at, linked, with_operand, arm, assigned, left_place, counted, counted_after, value_in, object_in, place_in}

-- a step that needs no statement
abbrev pub is_pure_step : StepTree → Bool
is_pure_step (t.field k) = true
is_pure_step (t.item e s) = is_pure e

-- a link behind the chain so far, which is this expression
abbrev pub link_in : Scope → LinkTree → t.ExprTree → VarTy → Lowered → ℕ → Lowered
link_in c (link at to step e) whole ty far n =
    let ready = held_if (not (takes_left_first step) || not (is_pure e)) n (holding ty whole) far in
    linked ty step at ready (value_in c e (past n ready.temps))

-- an operand of `&&` or `||`
abbrev pub operand_in : Scope → OperandTree → LogicalOp → ℕ → Effects → ℕ → Effects
operand_in c (operand s e) op k far n = with_operand op k (type_of e) s far (value_in c e (past n far.temps))

-- an arm of `?:`, whose value temporary k is given
abbrev pub arm_in : Scope → ℕ → t.ExprTree → ℕ → Effects
arm_in c k e n = let v = value_in c e n in record { stmts = arm k v; temps = v.temps }

-- an argument, which is held where this says so
abbrev pub argument_in : Scope → Bool → t.ExprTree → ℕ → Lowered
argument_in c b e n = held_if b n (holding (type_of e) e) (value_in c e n)

-- a value that is dropped, held in a temporary
abbrev pub held_in : Scope → t.ExprTree → ℕ → Effects
held_in c e n = effects_of (held n (holding (type_of e) e) (value_in c e n))

-- a step of a place
abbrev pub step_in : Scope → StepTree → RootTree → List StepTree → LoweredPlace → ℕ → LoweredPlace
step_in c (t.field k) root before far n = field_in c k far
step_in c (t.item e s) root before far n =
    let first = decayed s (t.place root (step_trees before)) far in
    let ty = decayed_type far.fixed far.ty in
    let base = held_if (not (is_pure e)) n (holding ty first) (record { stmts = far.stmts; value = decay far.place; temps = far.temps }) in
    element_place s first e ty base (value_in c e (past n base.temps))

-- an assignment, of an object where `whole` holds
abbrev pub assignment_in : Scope → Bool → t.PlaceTree → t.ExprTree → Bool → ℕ → LoweredPlace
assignment_in c used p a whole n =
    let to = left_place used a n (place_in c p n) in
    assigned whole to (object_in c a (past n to.temps)) (value_in c a (past n to.temps))

-- the value of `++` or `--` at this place
abbrev pub count_at : Span → t.PlaceTree → Span → Bool → Bool → LoweredPlace → ℕ → Lowered
count_at s p at back false low n = value_at (counted s back (fixed_if true n low))
count_at s p at back true low n =
    let to = fixed_if true n low in
    counted_after s back (past n to.temps) (holding to.ty (typed at (Some to.ty) (t.read p))) to
