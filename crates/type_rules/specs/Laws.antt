-- What holds of the rules whatever the operands.
use Rattle.std.specs.Prelude.{◌≡◌, ◌≢◌, ◌↔◌, Bool, true, false, ◌||◌, not, IsTrue}
use Rattle.pt_base.specs.declared.int_type.IntType.{IntType}
use Rattle.pt_tree.specs.declared.operator.BinaryOp.{BinaryOp}
use Rattle.pt_tree.specs.declared.operator.BinaryOp.TheVariants.{Equal, NotEqual, Less, Greater, LessEqual, GreaterEqual, Add}
use Rattle.pt_tree.specs.declared.signature.Elem.{Elem}
use Rattle.type_rules.specs.declared.types.Type.{«Type»}
use Rattle.type_rules.specs.declared.types.Type.TheVariants as ty
use Rattle.type_rules.specs.declared.types.Value.{Value}
use Rattle.type_rules.specs.declared.operators.Rule.{Rule}
use Rattle.type_rules.specs.declared.operators.Rule.TheVariants.{Unknown, Wrong}
use Rattle.type_rules.specs.declared.unary.UnaryRule.{UnaryRule}
use Rattle.type_rules.specs.declared.unary.UnaryRule.TheVariants as unary
use Rattle.type_rules.specs.declared.conversions.Fit.{Fit}
use Rattle.type_rules.specs.declared.conversions.Fit.TheVariants as fit
use Rattle.type_rules.specs.declared.conversions.ChoiceRule.TheVariants as choice
use Rattle.type_rules.specs.declared.conversions.ConditionRule.TheVariants as condition
use Rattle.type_rules.specs.declared.conversions.CastRule.TheVariants as cast
use Rattle.type_rules.specs.Conversions.{fit_rule, choice_rule, condition_rule, cast_rule, compound_rule}
use Rattle.type_rules.specs.Operators.{binary_rule, index_rule, rule_type, promoted_rule, not_rule, step_rule, deref_rule}
use Rattle.type_rules.specs.Types.{is_bad, is_integer, is_scalar}

-- an operand is Bad
abbrev pub is_unknown : Rule → Bool
is_unknown Unknown = true
is_unknown rule = false

-- neither unknown nor a fault
abbrev pub is_given : Rule → Bool
is_given Unknown = false
is_given (Wrong left right) = false
is_given rule = true

-- if it is a fault, then of an operand
abbrev pub names_operand : Rule → Bool
names_operand (Wrong left right) = left || right
names_operand rule = true

-- the rule is silent exactly where an operand is Bad, each of its faults stands at an operand, and where it is
-- neither it gives an integer or a pointer, else Bad
pub record Answers (rule : Rule) (v w : Value) : Type 0 where
  pub silent : is_unknown rule ≡ (is_bad v.ty || is_bad w.ty)
  pub named : names_operand rule ≡ true
  pub typed : is_scalar (rule_type rule v w) ≡ is_given rule
  pub bad : is_bad (rule_type rule v w) ≡ not (is_given rule)

-- so do operators, subscripts and compound assignments
pub record OperatorsAnswer : Type 0 where
  pub binary : (op : BinaryOp) (v w : Value) → Answers (binary_rule op v w) v w
  pub index : (v w : Value) → Answers (index_rule v w) v w
  pub compound : (op : BinaryOp) (t : «Type») (w : Value) → Answers (compound_rule op t w) (record { ty = t; null = false }) w

-- the operand is Bad
abbrev pub is_silent : UnaryRule → Bool
is_silent unary.Unknown = true
is_silent rule = false

-- the rule is silent exactly at Bad, and never gives Bad
pub record AnswersOne (rule : «Type» → UnaryRule) : Type 0 where
  pub silent : (t : «Type») → is_silent (rule t) ≡ is_bad t
  pub typed : (t s : «Type») → rule t ≡ unary.Gives s → s ≢ ty.Bad

-- so does each operator of one operand
pub record UnaryRulesAnswer : Type 0 where
  pub promoted : AnswersOne promoted_rule
  pub negation : AnswersOne not_rule
  pub step : AnswersOne step_rule
  pub deref : AnswersOne deref_rule

-- the relational and equality operators (C99 6.5.8, 6.5.9)
abbrev pub is_comparison : BinaryOp → Bool
is_comparison Equal = true
is_comparison NotEqual = true
is_comparison Less = true
is_comparison Greater = true
is_comparison LessEqual = true
is_comparison GreaterEqual = true
is_comparison op = false

-- two operands that are compared are compared in the same way when they change places
abbrev pub ComparisonsAreSymmetric : Type 0
ComparisonsAreSymmetric = (op : BinaryOp) (v w : Value) → is_comparison op ≡ true →
    is_given (binary_rule op v w) ≡ true → binary_rule op w v ≡ binary_rule op v w

-- E1[E2] moves as E1 + E2 does
abbrev pub SubscriptsAreSums : Type 0
SubscriptsAreSums = (v w : Value) → is_given (index_rule v w) ≡ true → index_rule v w ≡ binary_rule Add v w

-- the rules of conversions are silent exactly where a type is Bad, and a choice never gives Bad
pub record ConversionsAnswer : Type 0 where
  pub stored : (t : «Type») (v : Value) → (fit_rule t v ≡ fit.Unknown) ↔ ((is_bad t || is_bad v.ty) ≡ true)
  pub chosen : (v w : Value) → (choice_rule v w ≡ choice.Unknown) ↔ ((is_bad v.ty || is_bad w.ty) ≡ true)
  pub tested : (v : Value) → (condition_rule v ≡ condition.Unknown) ↔ (is_bad v.ty ≡ true)
  pub converted : (t : «Type») (v : Value) → (cast_rule t v ≡ cast.Unknown) ↔ ((is_bad t || is_bad v.ty) ≡ true)
  pub typed : (v w : Value) (t : «Type») → choice_rule v w ≡ choice.Gives t → t ≢ ty.Bad

-- neither unknown nor a fault
abbrev pub fits : Fit → Bool
fits fit.Unknown = false
fits fit.Wrong = false
fits f = true

-- an integer type takes exactly the integers
abbrev pub IntegersFitIntegers : Type 0
IntegersFitIntegers = (t : IntType) (v : Value) → fits (fit_rule (ty.Int t) v) ≡ is_integer v.ty

-- a pointer is stored exactly where the pointee is the same and no const is dropped
abbrev pub PointersFitPointers : Type 0
PointersFitPointers = (e e' : Elem) (fixed fixed' null : Bool) →
    (fit_rule (ty.Pointer e fixed) (record { ty = ty.Pointer e' fixed'; null = null }) ≡ fit.Points) ↔
    ((e ≡ e') × (IsTrue fixed' → IsTrue fixed))

-- what a choice gives, but void, is a type that both arms fit
abbrev pub ArmsFitTheirChoice : Type 0
ArmsFitTheirChoice = (v w : Value) (t : «Type») → choice_rule v w ≡ choice.Gives t → t ≢ ty.Void →
    (fits (fit_rule t v) ≡ true) × (fits (fit_rule t w) ≡ true)

-- what a compound assignment computes is what the operator computes of both, and fits the object
abbrev pub CompoundsFit : Type 0
CompoundsFit = (op : BinaryOp) (t : «Type») (w : Value) → is_given (compound_rule op t w) ≡ true →
    let v : Value = record { ty = t; null = false } in
    (compound_rule op t w ≡ binary_rule op v w) ×
    (fits (fit_rule t (record { ty = rule_type (binary_rule op v w) v w; null = false })) ≡ true)
