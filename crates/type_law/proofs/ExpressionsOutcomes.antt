-- What the two operands of an operator are where its rule has no fault.
use Rattle.std.proofs.Common.{◌≡◌, ◌∙◌, refl, ap, sym, subst, [], Bool, true, false, if◌then◌else◌, is_some}
use Rattle.std.specs.Prelude.{IsTrue, ◌||◌}
use Rattle.std.proofs.Math.Bool.{beq}
use Rattle.std.proofs.lemmas.Bool.{or_from}
use Rattle.pt_base.specs.declared.span.Span.{Span}
use Rattle.pt_base.specs.IntTypes.{promoted, usual}
use Rattle.pt_base.specs.declared.int_type.IntType.{IntType}
use Rattle.pt_base.specs.declared.int_type.IntType.TheVariants as int
use Rattle.pt_int.specs.Operator.{is_shift, binary_type}
use Rattle.pt_tree.specs.declared.operator.BinaryOp.{BinaryOp}
use Rattle.pt_tree.specs.declared.operator.BinaryOp.TheVariants.{LogicalOr, LogicalAnd, BitOr, BitXor, BitAnd, Equal, NotEqual, Less, Greater, LessEqual, GreaterEqual, ShiftLeft, ShiftRight, Add, Subtract, Multiply, Divide, Remainder}
use Rattle.pt_tree.specs.declared.signature.Elem.{Elem}
use Rattle.type_rules.specs.declared.types.Type.{«Type»}
use Rattle.type_rules.specs.declared.types.Type.TheVariants.{Bad, Void, Int, Struct, Array, Pointer}
use Rattle.type_rules.specs.declared.types.Value.{Value}
use Rattle.type_rules.specs.declared.operators.Rule.{Rule}
use Rattle.type_rules.specs.declared.operators.Rule.TheVariants as rule
use Rattle.type_rules.specs.Types.{is_same_elem, is_bad, is_integer, is_scalar}
use Rattle.type_rules.specs.Operators.{judged, takes, arithmetic, shift, sum, difference, pointers, compared, pair_rule, binary_rule}
use Rattle.typed_tree.specs.TypeRules.{is_comparison}
use Rattle.check_expressions.specs.Links.{integer_op, logical_of, rule_faults, link_rule}
use Rattle.type_law.specs.DeclarationsTypes.{is_good}

-- a value of this type
abbrev pub val : «Type» → Bool → Value
val ty null = record { ty = ty; null = null }

-- the rule of an operator but && and || for operands of these types, where it has no fault
pub data Outcome (op : BinaryOp) : «Type» → Bool → «Type» → Bool → Rule → Type 0 where
  numbers : (a b : IntType) (m k : Bool) → is_shift (integer_op op) ≡ false → is_comparison (integer_op op) ≡ false → binary_type (integer_op op) (usual a b) ≡ usual a b → Outcome op (Int a) m (Int b) k (rule.Arithmetic (usual a b))
  truths : (a b : IntType) (m k : Bool) → is_shift (integer_op op) ≡ false → is_comparison (integer_op op) ≡ true → binary_type (integer_op op) (usual a b) ≡ int.Int → Outcome op (Int a) m (Int b) k (rule.Comparison (usual a b))
  shifts : (a b : IntType) (m k : Bool) → Outcome op (Int a) m (Int b) k (rule.Shift (promoted a))
  moves : (e : Elem) (f : Bool) (b : IntType) (m k : Bool) → Outcome op (Pointer e f) m (Int b) k rule.Move
  moves_by : (a : IntType) (e : Elem) (f : Bool) (m k : Bool) → Outcome op (Int a) m (Pointer e f) k rule.MoveBy
  differs : (e e' : Elem) (f f' : Bool) (m k : Bool) → is_same_elem e e' ≡ true → Outcome op (Pointer e f) m (Pointer e' f') k rule.Difference
  compares : (e e' : Elem) (f f' : Bool) (m k : Bool) → is_comparison (integer_op op) ≡ true → is_same_elem e e' ≡ true → Outcome op (Pointer e f) m (Pointer e' f') k rule.ComparePointers
  null_right : (e : Elem) (f : Bool) (b : IntType) (m : Bool) → is_comparison (integer_op op) ≡ true → Outcome op (Pointer e f) m (Int b) true rule.ComparePointers
  null_left : (a : IntType) (e : Elem) (f : Bool) (k : Bool) → is_comparison (integer_op op) ≡ true → Outcome op (Int a) true (Pointer e f) k rule.ComparePointers

-- ---- operands that are taken

pub record Taken (bad left right : Bool) (r : Rule) (l q : Span) : Type 0 where
  pub left_is : left ≡ true
  pub right_is : right ≡ true
  pub same : judged bad left right r ≡ r
  pub fine : rule_faults r l q ≡ []

pub taken : (bad left right : Bool) (r : Rule) (l q : Span) → bad ≡ false → rule_faults (judged bad left right r) l q ≡ [] → Taken bad left right r l q
unfolding rule_faults
taken true left right r l q b h = cc
taken false true true r l q b h = record { left_is = refl; right_is = refl; same = refl; fine = h }
taken false true false r l q b h = cc
taken false false true r l q b h = cc
taken false false false r l q b h = cc

pub good_known : (structs : _) (t : «Type») → IsTrue (is_good structs t) → is_bad t ≡ false
good_known structs Bad h = cc
good_known structs Void h = refl
good_known structs (Int a) h = refl
good_known structs (Struct a) h = refl
good_known structs (Array e c) h = refl
good_known structs (Pointer e f) h = refl

-- ---- one family of operators after the other

arithmetic_outcome : (op : BinaryOp) (s t : «Type») (m k : Bool) → is_shift (integer_op op) ≡ false → is_comparison (integer_op op) ≡ false → ((u : IntType) → binary_type (integer_op op) u ≡ u) → is_integer s ≡ true → is_integer t ≡ true → Outcome op s m t k (arithmetic s t)
arithmetic_outcome op (Int a) (Int b) m k p c r g h = numbers a b m k p c (r (usual a b))
arithmetic_outcome op (Int a) Bad m k p c r g h = cc
arithmetic_outcome op (Int a) Void m k p c r g h = cc
arithmetic_outcome op (Int a) (Struct b) m k p c r g h = cc
arithmetic_outcome op (Int a) (Array e b) m k p c r g h = cc
arithmetic_outcome op (Int a) (Pointer e f) m k p c r g h = cc
arithmetic_outcome op Bad t m k p c r g h = cc
arithmetic_outcome op Void t m k p c r g h = cc
arithmetic_outcome op (Struct b) t m k p c r g h = cc
arithmetic_outcome op (Array e b) t m k p c r g h = cc
arithmetic_outcome op (Pointer e f) t m k p c r g h = cc

shift_outcome : (op : BinaryOp) (s t : «Type») (m k : Bool) → is_integer s ≡ true → is_integer t ≡ true → Outcome op s m t k (shift s t)
shift_outcome op (Int a) (Int b) m k g h = shifts a b m k
shift_outcome op (Int a) Bad m k g h = cc
shift_outcome op (Int a) Void m k g h = cc
shift_outcome op (Int a) (Struct b) m k g h = cc
shift_outcome op (Int a) (Array e b) m k g h = cc
shift_outcome op (Int a) (Pointer e f) m k g h = cc
shift_outcome op Bad t m k g h = cc
shift_outcome op Void t m k g h = cc
shift_outcome op (Struct b) t m k g h = cc
shift_outcome op (Array e b) t m k g h = cc
shift_outcome op (Pointer e f) t m k g h = cc

sum_outcome : (op : BinaryOp) (s t : «Type») (m k : Bool) (l q : Span) → is_shift (integer_op op) ≡ false → is_comparison (integer_op op) ≡ false → ((u : IntType) → binary_type (integer_op op) u ≡ u) → is_scalar s ≡ true → is_scalar t ≡ true → rule_faults (sum s t) l q ≡ [] → Outcome op s m t k (sum s t)
unfolding rule_faults
sum_outcome op (Int a) (Int b) m k l q p c r g h z = numbers a b m k p c (r (usual a b))
sum_outcome op (Int a) (Pointer e f) m k l q p c r g h z = moves_by a e f m k
sum_outcome op (Int a) Bad m k l q p c r g h z = cc
sum_outcome op (Int a) Void m k l q p c r g h z = cc
sum_outcome op (Int a) (Struct b) m k l q p c r g h z = cc
sum_outcome op (Int a) (Array e b) m k l q p c r g h z = cc
sum_outcome op (Pointer e f) (Int b) m k l q p c r g h z = moves e f b m k
sum_outcome op (Pointer e f) (Pointer e' f') m k l q p c r g h z = cc
sum_outcome op (Pointer e f) Bad m k l q p c r g h z = cc
sum_outcome op (Pointer e f) Void m k l q p c r g h z = cc
sum_outcome op (Pointer e f) (Struct b) m k l q p c r g h z = cc
sum_outcome op (Pointer e f) (Array e' b) m k l q p c r g h z = cc
sum_outcome op Bad t m k l q p c r g h z = cc
sum_outcome op Void t m k l q p c r g h z = cc
sum_outcome op (Struct b) t m k l q p c r g h z = cc
sum_outcome op (Array e b) t m k l q p c r g h z = cc

difference_outcome : (op : BinaryOp) (s t : «Type») (m k : Bool) (l q : Span) → is_shift (integer_op op) ≡ false → is_comparison (integer_op op) ≡ false → ((u : IntType) → binary_type (integer_op op) u ≡ u) → is_scalar s ≡ true → is_scalar t ≡ true → rule_faults (difference s t) l q ≡ [] → Outcome op s m t k (difference s t)
unfolding rule_faults
difference_outcome op (Int a) (Int b) m k l q p c r g h z = numbers a b m k p c (r (usual a b))
difference_outcome op (Int a) (Pointer e f) m k l q p c r g h z = cc
difference_outcome op (Int a) Bad m k l q p c r g h z = cc
difference_outcome op (Int a) Void m k l q p c r g h z = cc
difference_outcome op (Int a) (Struct b) m k l q p c r g h z = cc
difference_outcome op (Int a) (Array e b) m k l q p c r g h z = cc
difference_outcome op (Pointer e f) (Int b) m k l q p c r g h z = moves e f b m k
difference_outcome op (Pointer e f) (Pointer e' f') m k l q p c r g h z = by_test (is_same_elem e e') refl z
  where
    by_test : (b : Bool) → is_same_elem e e' ≡ b → rule_faults (if b then rule.Difference else rule.Wrong false true) l q ≡ [] → Outcome op (Pointer e f) m (Pointer e' f') k (if b then rule.Difference else rule.Wrong false true)
    by_test true s y = differs e e' f f' m k s
    by_test false s y = cc
difference_outcome op (Pointer e f) Bad m k l q p c r g h z = cc
difference_outcome op (Pointer e f) Void m k l q p c r g h z = cc
difference_outcome op (Pointer e f) (Struct b) m k l q p c r g h z = cc
difference_outcome op (Pointer e f) (Array e' b) m k l q p c r g h z = cc
difference_outcome op Bad t m k l q p c r g h z = cc
difference_outcome op Void t m k l q p c r g h z = cc
difference_outcome op (Struct b) t m k l q p c r g h z = cc
difference_outcome op (Array e b) t m k l q p c r g h z = cc

compared_outcome : (op : BinaryOp) (s t : «Type») (m k : Bool) (l q : Span) → is_shift (integer_op op) ≡ false → is_comparison (integer_op op) ≡ true → ((u : IntType) → binary_type (integer_op op) u ≡ int.Int) → is_scalar s ≡ true → is_scalar t ≡ true → rule_faults (compared s m t k) l q ≡ [] → Outcome op s m t k (compared s m t k)
unfolding rule_faults
compared_outcome op (Int a) (Int b) m k l q p c r g h z = truths a b m k p c (r (usual a b))
compared_outcome op (Int a) (Pointer e f) true k l q p c r g h z = null_left a e f k c
compared_outcome op (Int a) (Pointer e f) false k l q p c r g h z = cc
compared_outcome op (Int a) Bad m k l q p c r g h z = cc
compared_outcome op (Int a) Void m k l q p c r g h z = cc
compared_outcome op (Int a) (Struct b) m k l q p c r g h z = cc
compared_outcome op (Int a) (Array e b) m k l q p c r g h z = cc
compared_outcome op (Pointer e f) (Int b) m true l q p c r g h z = null_right e f b m c
compared_outcome op (Pointer e f) (Int b) m false l q p c r g h z = cc
compared_outcome op (Pointer e f) (Pointer e' f') m k l q p c r g h z = by_test (is_same_elem e e') refl z
  where
    by_test : (b : Bool) → is_same_elem e e' ≡ b → rule_faults (pointers b) l q ≡ [] → Outcome op (Pointer e f) m (Pointer e' f') k (pointers b)
    by_test true s y = compares e e' f f' m k c s
    by_test false s y = cc
compared_outcome op (Pointer e f) Bad m k l q p c r g h z = cc
compared_outcome op (Pointer e f) Void m k l q p c r g h z = cc
compared_outcome op (Pointer e f) (Struct b) m k l q p c r g h z = cc
compared_outcome op (Pointer e f) (Array e' b) m k l q p c r g h z = cc
compared_outcome op Bad t m k l q p c r g h z = cc
compared_outcome op Void t m k l q p c r g h z = cc
compared_outcome op (Struct b) t m k l q p c r g h z = cc
compared_outcome op (Array e b) t m k l q p c r g h z = cc

pair_outcome : (op : BinaryOp) (s t : «Type») (m k : Bool) (l q : Span) → is_some (logical_of op) ≡ false → takes op s ≡ true → takes op t ≡ true → rule_faults (pair_rule op (val s m) (val t k)) l q ≡ [] → Outcome op s m t k (pair_rule op (val s m) (val t k))
unfolding integer_op logical_of
pair_outcome LogicalOr s t m k l q o g h z = cc
pair_outcome LogicalAnd s t m k l q o g h z = cc
pair_outcome BitOr s t m k l q o g h z = arithmetic_outcome BitOr s t m k refl refl (λ u. refl) g h
pair_outcome BitXor s t m k l q o g h z = arithmetic_outcome BitXor s t m k refl refl (λ u. refl) g h
pair_outcome BitAnd s t m k l q o g h z = arithmetic_outcome BitAnd s t m k refl refl (λ u. refl) g h
pair_outcome Equal s t m k l q o g h z = compared_outcome Equal s t m k l q refl refl (λ u. refl) g h z
pair_outcome NotEqual s t m k l q o g h z = compared_outcome NotEqual s t m k l q refl refl (λ u. refl) g h z
pair_outcome Less s t m k l q o g h z = compared_outcome Less s t m k l q refl refl (λ u. refl) g h z
pair_outcome Greater s t m k l q o g h z = compared_outcome Greater s t m k l q refl refl (λ u. refl) g h z
pair_outcome LessEqual s t m k l q o g h z = compared_outcome LessEqual s t m k l q refl refl (λ u. refl) g h z
pair_outcome GreaterEqual s t m k l q o g h z = compared_outcome GreaterEqual s t m k l q refl refl (λ u. refl) g h z
pair_outcome ShiftLeft s t m k l q o g h z = shift_outcome ShiftLeft s t m k g h
pair_outcome ShiftRight s t m k l q o g h z = shift_outcome ShiftRight s t m k g h
pair_outcome Add s t m k l q o g h z = sum_outcome Add s t m k l q refl refl (λ u. refl) g h z
pair_outcome Subtract s t m k l q o g h z = difference_outcome Subtract s t m k l q refl refl (λ u. refl) g h z
pair_outcome Multiply s t m k l q o g h z = arithmetic_outcome Multiply s t m k refl refl (λ u. refl) g h
pair_outcome Divide s t m k l q o g h z = arithmetic_outcome Divide s t m k refl refl (λ u. refl) g h
pair_outcome Remainder s t m k l q o g h z = arithmetic_outcome Remainder s t m k refl refl (λ u. refl) g h

pub binary_outcome : (op : BinaryOp) (s t : «Type») (m k : Bool) (l q : Span) → is_some (logical_of op) ≡ false → is_bad s ≡ false → is_bad t ≡ false → rule_faults (binary_rule op (val s m) (val t k)) l q ≡ [] → Outcome op s m t k (binary_rule op (val s m) (val t k))
unfolding binary_rule
binary_outcome op s t m k l q o g h z =
    let j = taken (is_bad s || is_bad t) (takes op s) (takes op t) (pair_rule op (val s m) (val t k)) l q (or_from (is_bad s) (is_bad t) g h) z in
    subst (λ r. Outcome op s m t k r) (sym j.same) (pair_outcome op s t m k l q o j.left_is j.right_is j.fine)

-- ---- && and ||

pub record BothScalar (r : Rule) (s t : «Type») : Type 0 where
  pub is : r ≡ rule.Logical
  pub left : is_scalar s ≡ true
  pub right : is_scalar t ≡ true

pub logical_outcome : (op : BinaryOp) (s t : «Type») (m k : Bool) (l q : Span) → is_some (logical_of op) ≡ true → is_bad s ≡ false → is_bad t ≡ false → rule_faults (binary_rule op (val s m) (val t k)) l q ≡ [] → BothScalar (binary_rule op (val s m) (val t k)) s t
unfolding binary_rule logical_of
logical_outcome LogicalOr s t m k l q o g h z =
    let j = taken (is_bad s || is_bad t) (is_scalar s) (is_scalar t) rule.Logical l q (or_from (is_bad s) (is_bad t) g h) z in
    record { is = j.same; left = j.left_is; right = j.right_is }
logical_outcome LogicalAnd s t m k l q o g h z =
    let j = taken (is_bad s || is_bad t) (is_scalar s) (is_scalar t) rule.Logical l q (or_from (is_bad s) (is_bad t) g h) z in
    record { is = j.same; left = j.left_is; right = j.right_is }
logical_outcome BitOr s t m k l q o g h z = cc
logical_outcome BitXor s t m k l q o g h z = cc
logical_outcome BitAnd s t m k l q o g h z = cc
logical_outcome Equal s t m k l q o g h z = cc
logical_outcome NotEqual s t m k l q o g h z = cc
logical_outcome Less s t m k l q o g h z = cc
logical_outcome Greater s t m k l q o g h z = cc
logical_outcome LessEqual s t m k l q o g h z = cc
logical_outcome GreaterEqual s t m k l q o g h z = cc
logical_outcome ShiftLeft s t m k l q o g h z = cc
logical_outcome ShiftRight s t m k l q o g h z = cc
logical_outcome Add s t m k l q o g h z = cc
logical_outcome Subtract s t m k l q o g h z = cc
logical_outcome Multiply s t m k l q o g h z = cc
logical_outcome Divide s t m k l q o g h z = cc
logical_outcome Remainder s t m k l q o g h z = cc

-- ---- links of a chain

-- a link of a chain without a fault is of the chain's sort
pub record OfSort (is_logical : Bool) (op : BinaryOp) (a b : Value) : Type 0 where
  pub sort : is_some (logical_of op) ≡ is_logical
  pub rule_is : link_rule is_logical op a b ≡ binary_rule op a b

pub of_sort : (is_logical : Bool) (op : BinaryOp) (a b : Value) (l q : Span) → rule_faults (link_rule is_logical op a b) l q ≡ [] → OfSort is_logical op a b
unfolding link_rule rule_faults
of_sort is_logical op a b l q h = by_test is_logical (is_some (logical_of op)) refl refl h
  where
    by_test : (c d : Bool) → is_logical ≡ c → is_some (logical_of op) ≡ d → rule_faults (if beq c d then binary_rule op a b else rule.Wrong true true) l q ≡ [] → OfSort is_logical op a b
    by_test true true e g z = record { sort = g ∙ sym e; rule_is = ap (λ x. if x then binary_rule op a b else rule.Wrong true true) (ap (λ x. beq x (is_some (logical_of op))) e ∙ ap (λ x. beq true x) g) }
    by_test false false e g z = record { sort = g ∙ sym e; rule_is = ap (λ x. if x then binary_rule op a b else rule.Wrong true true) (ap (λ x. beq x (is_some (logical_of op))) e ∙ ap (λ x. beq false x) g) }
    by_test true false e g z = cc
    by_test false true e g z = cc
