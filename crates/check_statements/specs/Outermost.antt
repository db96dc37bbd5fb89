-- The outermost expressions of a function's body, those that stand in no other: each gets the next number.
use Rattle.std.specs.Prelude.{ℕ, ◌+◌, List, [], ◌∷◌, ◌++◌, Bool, true, false, Option, Some, None}
use Rattle.pt_tree.specs.ExpressionTree as e
use Rattle.type_rules.specs.declared.types.Type.{«Type»}
use Rattle.type_rules.specs.declared.conversions.ConditionRule.{ConditionRule}
use Rattle.type_rules.specs.declared.conversions.ConditionRule.TheVariants as condition
use Rattle.type_rules.specs.Conversions.{condition_rule, fit_rule, is_wrong}
use Rattle.typed_tree.specs.declared.ids.ExprId.{ExprId}
use Rattle.typed_tree.specs.ExpressionTree.{ExprTree}
use Rattle.check_declarations.specs.declared.fault.FaultKind.TheVariants.{WrongType}
use Rattle.check_declarations.specs.declared.fault.TypeFault.{TypeFault}
use Rattle.check_declarations.specs.Faults.{fault_if}
use Rattle.check_declarations.specs.Structs.{Structs}
use Rattle.check_expressions.specs.Environment.{Env}
use Rattle.check_expressions.specs.Conversions.{as_type}
use Rattle.check_expressions.specs.Operands.{value_of, value_tree, span_of}
use Rattle.check_expressions.specs.Expressions.{Judged, judge}

-- where a statement stands: what names mean there, the structs, and the number that the next outermost
-- expression gets
pub record State : Type 0 where
  pub env : Env
  pub structs : Structs
  pub next : ℕ

-- an outermost expression: the state behind it, its number, its typed tree, and the faults
pub record Placed : Type 0 where
  pub state : State
  pub id : ExprId
  pub tree : ExprTree
  pub faults : List TypeFault

-- the state behind an outermost expression that left these structs
abbrev pub behind : State → Structs → State
behind st structs = record { env = st.env; structs = structs; next = st.next + 1 }

abbrev pub placed : State → Structs → ExprTree → List TypeFault → Placed
placed st structs tree faults = record { state = behind st structs; id = record { 0 = st.next }; tree = tree; faults = faults }

-- ---- evaluated alone: of any type, void too

abbrev pub as_value : State → e.ExprTree → Judged → Placed
as_value st a j = placed st j.structs (value_tree (span_of a) j.operand) j.faults

abbrev pub evaluated : State → e.ExprTree → Placed
evaluated st a = as_value st a (judge st.env st.structs a)

-- ---- a condition (C99 6.8.4.1p1, 6.8.5p2): an integer or a pointer

abbrev pub is_no_condition : ConditionRule → Bool
is_no_condition condition.Unknown = false
is_no_condition condition.Wrong = true
is_no_condition condition.Good = false

abbrev pub as_condition : State → e.ExprTree → Judged → Placed
as_condition st a j =
    placed st j.structs (value_tree (span_of a) j.operand)
    (j.faults ++ fault_if (is_no_condition (condition_rule (value_of j.operand))) WrongType (span_of a))

abbrev pub tested : State → e.ExprTree → Placed
tested st a = as_condition st a (judge st.env st.structs a)

-- ---- a value for an object or a result of this type, converted to it (C99 6.5.16.1)

abbrev pub as_fitting : State → «Type» → e.ExprTree → Judged → Placed
as_fitting st ty a j =
    placed st j.structs (as_type ty (value_of j.operand).null (value_tree (span_of a) j.operand))
    (j.faults ++ fault_if (is_wrong (fit_rule ty (value_of j.operand))) WrongType (span_of a))

abbrev pub fitted : State → «Type» → e.ExprTree → Placed
fitted st ty a = as_fitting st ty a (judge st.env st.structs a)

-- ---- an expression that may be left out

pub record Maybe : Type 0 where
  pub state : State
  pub id : Option ExprId
  pub trees : List ExprTree
  pub faults : List TypeFault

abbrev pub left_out : State → Maybe
left_out st = record { state = st; id = None; trees = []; faults = [] }

abbrev pub present : Placed → Maybe
present p = record { state = p.state; id = Some p.id; trees = p.tree ∷ []; faults = p.faults }

abbrev pub maybe_evaluated : State → Option e.ExprTree → Maybe
maybe_evaluated st None = left_out st
maybe_evaluated st (Some a) = present (evaluated st a)

abbrev pub maybe_tested : State → Option e.ExprTree → Maybe
maybe_tested st None = left_out st
maybe_tested st (Some a) = present (tested st a)
