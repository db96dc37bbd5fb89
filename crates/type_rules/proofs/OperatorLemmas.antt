-- The laws of operators.
use Rattle.std.proofs.Common.{◌≡◌, ◌≢◌, ◌∙◌, ◌||◌, not, Bool, true, false, if◌then◌else◌, refl, ap, sym}
use Rattle.pt_tree.specs.declared.operator.BinaryOp.{BinaryOp}
use Rattle.pt_tree.specs.declared.operator.BinaryOp.TheVariants.{LogicalOr, LogicalAnd, BitOr, BitXor, BitAnd, Equal, NotEqual, Less, Greater, LessEqual, GreaterEqual, ShiftLeft, ShiftRight, Add, Subtract, Multiply, Divide, Remainder}
use Rattle.pt_tree.specs.declared.signature.Elem.TheVariants as elem
use Rattle.type_rules.specs.declared.types.Type.{«Type»}
use Rattle.type_rules.specs.declared.types.Type.TheVariants.{Bad, Void, Int, Struct, Array, Pointer}
use Rattle.type_rules.specs.declared.types.Value.{Value}
use Rattle.type_rules.specs.declared.operators.Rule.{Rule}
use Rattle.type_rules.specs.declared.operators.Rule.TheVariants.{Comparison, Difference}
use Rattle.type_rules.specs.declared.unary.UnaryRule.TheVariants as unary
use Rattle.type_rules.specs.Operators.{arithmetic, at_right, binary_rule, compared, deref_rule, difference, index_rule, judged, not_rule, pair_rule, pointers, promoted_rule, rule_type, shift, step_rule, subscript, sum, takes}
use Rattle.type_rules.specs.Laws.{Answers, AnswersOne, ComparisonsAreSymmetric, SubscriptsAreSums, UnaryRulesAnswer, is_given, is_silent, is_unknown, names_operand}
use Rattle.type_rules.specs.Types.{is_bad, is_same_elem, is_scalar}
use Rattle.type_rules.proofs.TypeLemmas.{same_elem_back, usual_back}

-- what Answers asks of a rule of two operands that are taken
record Known (rule : Rule) (v w : Value) : Type 0 where
  known : is_unknown rule ≡ false
  names : names_operand rule ≡ true
  gives : is_scalar (rule_type rule v w) ≡ is_given rule
  keeps : is_bad (rule_type rule v w) ≡ not (is_given rule)

right_known : (v w : Value) → Known at_right v w
right_known v w = record { known = refl; names = refl; gives = refl; keeps = refl }

arithmetic_known : (a b : «Type») (v w : Value) → Known (arithmetic a b) v w
arithmetic_known (Int a) (Int b) v w = record { known = refl; names = refl; gives = refl; keeps = refl }
arithmetic_known a b v w = right_known v w

shift_known : (a b : «Type») (v w : Value) → Known (shift a b) v w
shift_known (Int a) (Int b) v w = record { known = refl; names = refl; gives = refl; keeps = refl }
shift_known a b v w = right_known v w

sum_known : (a b : «Type») (m n : Bool) → Known (sum a b) (record { ty = a; null = m }) (record { ty = b; null = n })
sum_known (Int a) (Int b) m n = record { known = refl; names = refl; gives = refl; keeps = refl }
sum_known (Pointer e f) (Int b) m n = record { known = refl; names = refl; gives = refl; keeps = refl }
sum_known (Int a) (Pointer e f) m n = record { known = refl; names = refl; gives = refl; keeps = refl }
sum_known a b m n = right_known _ _

difference_known : (a b : «Type») (m n : Bool) → Known (difference a b) (record { ty = a; null = m }) (record { ty = b; null = n })
difference_known (Int a) (Int b) m n = record { known = refl; names = refl; gives = refl; keeps = refl }
difference_known (Pointer e f) (Int b) m n = record { known = refl; names = refl; gives = refl; keeps = refl }
difference_known (Pointer e f) (Pointer e' f') m n = either (is_same_elem e e')
  where
    either : (s : Bool) → Known (if s then Difference else at_right) (record { ty = Pointer e f; null = m }) (record { ty = Pointer e' f'; null = n })
    either true = record { known = refl; names = refl; gives = refl; keeps = refl }
    either false = right_known _ _
difference_known a b m n = right_known _ _

pointers_known : (same : Bool) (v w : Value) → Known (pointers same) v w
pointers_known true v w = record { known = refl; names = refl; gives = refl; keeps = refl }
pointers_known false v w = right_known v w

compared_known : (a b : «Type») (m n : Bool) (v w : Value) → Known (compared a m b n) v w
compared_known (Int a) (Int b) m n v w = record { known = refl; names = refl; gives = refl; keeps = refl }
compared_known (Pointer e f) (Pointer e' f') m n v w = pointers_known (is_same_elem e e') v w
compared_known (Pointer e f) (Int b) m n v w = pointers_known n v w
compared_known (Int a) (Pointer e f) m n v w = pointers_known m v w
compared_known a b m n v w = right_known v w

subscript_known : (a b : «Type») (m n : Bool) → Known (subscript a b) (record { ty = a; null = m }) (record { ty = b; null = n })
subscript_known (Pointer e f) (Int b) m n = record { known = refl; names = refl; gives = refl; keeps = refl }
subscript_known (Int a) (Pointer e f) m n = record { known = refl; names = refl; gives = refl; keeps = refl }
subscript_known (Int a) (Int b) m n = record { known = refl; names = refl; gives = refl; keeps = refl }
subscript_known a b m n = right_known _ _

pair_known : (op : BinaryOp) (v w : Value) → Known (pair_rule op v w) v w
pair_known Multiply v w = arithmetic_known v.ty w.ty v w
pair_known Divide v w = arithmetic_known v.ty w.ty v w
pair_known Remainder v w = arithmetic_known v.ty w.ty v w
pair_known Add v w = sum_known v.ty w.ty v.null w.null
pair_known Subtract v w = difference_known v.ty w.ty v.null w.null
pair_known ShiftLeft v w = shift_known v.ty w.ty v w
pair_known ShiftRight v w = shift_known v.ty w.ty v w
pair_known Less v w = compared_known v.ty w.ty v.null w.null v w
pair_known Greater v w = compared_known v.ty w.ty v.null w.null v w
pair_known LessEqual v w = compared_known v.ty w.ty v.null w.null v w
pair_known GreaterEqual v w = compared_known v.ty w.ty v.null w.null v w
pair_known Equal v w = compared_known v.ty w.ty v.null w.null v w
pair_known NotEqual v w = compared_known v.ty w.ty v.null w.null v w
pair_known BitAnd v w = arithmetic_known v.ty w.ty v w
pair_known BitXor v w = arithmetic_known v.ty w.ty v w
pair_known BitOr v w = arithmetic_known v.ty w.ty v w
pair_known LogicalAnd v w = record { known = refl; names = refl; gives = refl; keeps = refl }
pair_known LogicalOr v w = record { known = refl; names = refl; gives = refl; keeps = refl }

answers : (v w : Value) (left right : Bool) (rule : Rule) → Known rule v w → Answers (judged (is_bad v.ty || is_bad w.ty) left right rule) v w
answers v w left right rule known = go (is_bad v.ty || is_bad w.ty) refl left right
  where
    go : (bad : Bool) → (is_bad v.ty || is_bad w.ty) ≡ bad → (l r : Bool) → Answers (judged bad l r rule) v w
    go true e l r = record { silent = sym e; named = refl; typed = refl; bad = refl }
    go false e true true = record { silent = known.known ∙ sym e; named = known.names; typed = known.gives; bad = known.keeps }
    go false e true false = record { silent = sym e; named = refl; typed = refl; bad = refl }
    go false e false true = record { silent = sym e; named = refl; typed = refl; bad = refl }
    go false e false false = record { silent = sym e; named = refl; typed = refl; bad = refl }

pub binary_answers : (op : BinaryOp) (v w : Value) → Answers (binary_rule op v w) v w
unfolding binary_rule
binary_answers op v w = answers v w (takes op v.ty) (takes op w.ty) (pair_rule op v w) (pair_known op v w)

pub index_answers : (v w : Value) → Answers (index_rule v w) v w
unfolding index_rule
index_answers v w = answers v w (is_scalar v.ty) (is_scalar w.ty) (subscript v.ty w.ty) (subscript_known v.ty w.ty v.null w.null)

pub subscripts : SubscriptsAreSums
unfolding index_rule binary_rule
subscripts v w = moved v.ty w.ty
  where
    moved : (a b : «Type») → is_given (judged (is_bad a || is_bad b) (is_scalar a) (is_scalar b) (subscript a b)) ≡ true →
        judged (is_bad a || is_bad b) (is_scalar a) (is_scalar b) (subscript a b) ≡ judged (is_bad a || is_bad b) (is_scalar a) (is_scalar b) (sum a b)
    moved (Pointer e f) (Int b) h = refl
    moved (Int a) (Pointer e f) h = refl
    moved a b h = cc

-- compared pointers are compared when they change places
pointers_back : (s t : Bool) → (s ≡ true → t ≡ true) → is_given (pointers s) ≡ true → pointers t ≡ pointers s
pointers_back true t h given = ap pointers (h refl)
pointers_back false t h given = cc

compared_back : (a b : «Type») (m n : Bool) →
    is_given (judged (is_bad a || is_bad b) (is_scalar a) (is_scalar b) (compared a m b n)) ≡ true →
    judged (is_bad b || is_bad a) (is_scalar b) (is_scalar a) (compared b n a m) ≡ judged (is_bad a || is_bad b) (is_scalar a) (is_scalar b) (compared a m b n)
compared_back (Int a) (Int b) m n h = ap Comparison (usual_back a b)
compared_back (Pointer e f) (Pointer e' f') m n h = pointers_back (is_same_elem e e') (is_same_elem e' e) (same_elem_back e e') h
compared_back (Pointer e f) (Int b) m n h = refl
compared_back (Int a) (Pointer e f) m n h = refl
compared_back Bad Bad m n h = cc
compared_back Void Void m n h = cc
compared_back (Struct a) (Struct b) m n h = cc
compared_back (Array e k) (Array e' k') m n h = cc
compared_back a b m n h = cc

pub symmetric : ComparisonsAreSymmetric
unfolding binary_rule
symmetric Equal v w c h = compared_back v.ty w.ty v.null w.null h
symmetric NotEqual v w c h = compared_back v.ty w.ty v.null w.null h
symmetric Less v w c h = compared_back v.ty w.ty v.null w.null h
symmetric Greater v w c h = compared_back v.ty w.ty v.null w.null h
symmetric LessEqual v w c h = compared_back v.ty w.ty v.null w.null h
symmetric GreaterEqual v w c h = compared_back v.ty w.ty v.null w.null h
symmetric op v w c h = cc

promoted_answers : AnswersOne promoted_rule
unfolding promoted_rule
promoted_answers = record { silent = silent; typed = typed }
  where
    silent : (t : «Type») → is_silent (promoted_rule t) ≡ is_bad t
    silent Bad = refl
    silent t = refl

    typed : (t s : «Type») → promoted_rule t ≡ unary.Gives s → s ≢ Bad
    typed Bad s e z = cc
    typed t s e z = cc

not_answers : AnswersOne not_rule
unfolding not_rule
not_answers = record { silent = silent; typed = typed }
  where
    silent : (t : «Type») → is_silent (not_rule t) ≡ is_bad t
    silent Bad = refl
    silent t = refl

    typed : (t s : «Type») → not_rule t ≡ unary.Gives s → s ≢ Bad
    typed Bad s e z = cc
    typed t s e z = cc

step_answers : AnswersOne step_rule
unfolding step_rule
step_answers = record { silent = silent; typed = typed }
  where
    silent : (t : «Type») → is_silent (step_rule t) ≡ is_bad t
    silent Bad = refl
    silent t = refl

    typed : (t s : «Type») → step_rule t ≡ unary.Gives s → s ≢ Bad
    typed Bad s e z = cc
    typed t s e z = cc

deref_answers : AnswersOne deref_rule
unfolding deref_rule
deref_answers = record { silent = silent; typed = typed }
  where
    silent : (t : «Type») → is_silent (deref_rule t) ≡ is_bad t
    silent Bad = refl
    silent t = refl

    typed : (t s : «Type») → deref_rule t ≡ unary.Gives s → s ≢ Bad
    typed (Pointer (elem.Int t) f) s e z = cc
    typed (Pointer (elem.Struct n) f) s e z = cc
    typed t s e z = cc

pub unary_answers : UnaryRulesAnswer
unary_answers = record { promoted = promoted_answers; negation = not_answers; step = step_answers; deref = deref_answers }
