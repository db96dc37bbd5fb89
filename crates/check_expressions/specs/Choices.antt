-- `test ? first : last` (C99 6.5.15). `s` is the span of the whole, the others those of the operands.
use Rattle.std.specs.Prelude.{[], ◌∷◌, ◌++◌, Bool, true, false}
use Rattle.pt_base.specs.declared.span.Span.{Span}
use Rattle.type_rules.specs.declared.types.Type.{«Type»}
use Rattle.type_rules.specs.declared.types.Value.{Value}
use Rattle.type_rules.specs.declared.conversions.ChoiceRule.{ChoiceRule}
use Rattle.type_rules.specs.declared.conversions.ChoiceRule.TheVariants as arms
use Rattle.type_rules.specs.declared.conversions.ConditionRule.{ConditionRule}
use Rattle.type_rules.specs.declared.conversions.ConditionRule.TheVariants as condition
use Rattle.type_rules.specs.Conversions.{condition_rule, choice_rule}
use Rattle.typed_tree.specs.ExpressionTree.{ExprTree, typed, choice}
use Rattle.check_declarations.specs.declared.fault.FaultKind.TheVariants.{WrongType, OutOfProfile}
use Rattle.check_declarations.specs.Faults.{fault_at, fault_if}
use Rattle.check_expressions.specs.Conversions.{as_type}
use Rattle.check_expressions.specs.Operands.{Known, Made, var_type, value_of, value_tree, plain, fine, refused}

-- an operand with where it stands
pub record Placed : Type 0 where
  pub span : Span
  pub known : Known

abbrev pub value_at : Placed → Value
value_at p = value_of p.known

abbrev pub tree_at : Placed → ExprTree
tree_at p = value_tree p.span p.known

-- an arm as a value of the type
unfoldable pub arm_tree : «Type» → Placed → ExprTree
arm_tree ty p = as_type ty (value_at p).null (tree_at p)

unfoldable pub choice_tree : Span → «Type» → Placed → Placed → Placed → ExprTree
choice_tree s ty test first last =
    typed s (var_type ty) (choice (tree_at test) (arm_tree ty first) (arm_tree ty last))

-- by the arms, the test not being Bad: a wrong test is a fault beside one of the arms
unfoldable pub chosen_by : ChoiceRule → Bool → Span → Placed → Placed → Placed → Made
chosen_by arms.Unknown wrong s test first last = refused []
chosen_by arms.Wrong wrong s test first last = refused (fault_if wrong WrongType test.span ++ fault_at WrongType last.span ∷ [])
chosen_by arms.Structs wrong s test first last = refused (fault_if wrong WrongType test.span ++ fault_at OutOfProfile s ∷ [])
chosen_by (arms.Gives ty) true s test first last = refused (fault_at WrongType test.span ∷ [])
chosen_by (arms.Gives ty) false s test first last = fine (plain ty (choice_tree s ty test first last))

unfoldable pub chosen_when : ConditionRule → ChoiceRule → Span → Placed → Placed → Placed → Made
chosen_when condition.Unknown rule s test first last = refused []
chosen_when condition.Wrong rule s test first last = chosen_by rule true s test first last
chosen_when condition.Good rule s test first last = chosen_by rule false s test first last

unfoldable pub chosen : Span → Placed → Placed → Placed → Made
chosen s test first last = chosen_when (condition_rule (value_at test)) (choice_rule (value_at first) (value_at last)) s test first last
