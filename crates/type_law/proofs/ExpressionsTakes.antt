-- The step of a link takes its operands once they are converted.
use Rattle.std.proofs.Common.{◌≡◌, ◌∙◌, ◌≤◌, ℕ, refl, ap, sym, subst, Bool, true, false, Option, Some, None, length, if◌then◌else◌}
use Rattle.std.specs.Prelude.{IsTrue, ◌&&◌, not}
use Rattle.pt_base.specs.IntTypes.{promoted, usual}
use Rattle.pt_base.specs.declared.int_type.IntType.{IntType}
use Rattle.pt_base.specs.declared.int_type.IntType.TheVariants as int
use Rattle.pt_base.proofs.Booleans.{both_hold}
use Rattle.pt_int.specs.declared.operator.BinOp.{BinOp}
use Rattle.pt_int.specs.Operator.{is_shift, binary_type}
use Rattle.pt_tree.specs.declared.operator.BinaryOp.{BinaryOp}
use Rattle.pt_tree.specs.declared.signature.Elem.{Elem}
use Rattle.type_rules.specs.declared.types.Type.{«Type»}
use Rattle.type_rules.specs.declared.types.Type.TheVariants.{Bad, Void, Int, Struct, Array, Pointer}
use Rattle.type_rules.specs.declared.types.Value.{Value}
use Rattle.type_rules.specs.declared.operators.Rule.{Rule}
use Rattle.type_rules.specs.declared.operators.Rule.TheVariants as rule
use Rattle.type_rules.specs.Types.{is_same_elem, is_integer}
use Rattle.type_rules.specs.Operators.{rule_type}
use Rattle.type_rules.proofs.TypeLemmas.{same_elem}
use Rattle.typed_tree.specs.declared.link.LinkStep.TheVariants as link_step
use Rattle.typed_tree.specs.declared.types.VarTy.{VarTy}
use Rattle.typed_tree.specs.declared.types.VarTy.TheVariants as v
use Rattle.typed_tree.specs.ExpressionTree.{ExprTree}
use Rattle.typed_tree.specs.TypeTests as test
use Rattle.typed_tree.specs.TypeRules.{stepped, is_promoted, is_comparison, int_where}
use Rattle.typed_tree.specs.WellFormedExpression.{Names, is_typed, ty_of, is_elem}
use Rattle.check_expressions.specs.Conversions.{as_type}
use Rattle.check_expressions.specs.Links.{integer_op, step_of, is_shift_left, is_subtraction, converted_by, link_type}
use Rattle.check_expressions.specs.Operands.{var_type}
use Rattle.type_law.specs.DeclarationsTypes.{is_good}
use Rattle.type_law.specs.ExpressionsLaws.{Fitted}
use Rattle.type_law.proofs.ExpressionsSameTypes.{promoted-promoted, promoted-same, usual-promoted, usual-left, usual-both}
use Rattle.type_law.proofs.DeclarationsGoodTypes.{elem_more}
use Rattle.type_law.proofs.ExpressionsFits.{int_fits, promoted_fits, null_fits}
use Rattle.type_law.proofs.ExpressionsOutcomes.{val, Outcome, numbers, truths, shifts, moves, moves_by, differs, compares, null_right, null_left}
use Rattle.typed_tree.proofs.SameTypes.{elem_self, int_self}

-- a type that links give: integers are promoted
abbrev pub is_ready : ℕ → «Type» → Bool
is_ready structs Bad = false
is_ready structs Void = false
is_ready structs (Int t) = is_promoted t
is_ready structs (Struct n) = false
is_ready structs (Array e count) = false
is_ready structs (Pointer e fixed) = is_elem structs (Some e)

-- the step takes a value so far of this type, and the converted operand
pub record Takes (n : Names) (structs : ℕ) (so_far : Option VarTy) (r : Rule) (op : BinaryOp) (a b : Value) (y : ExprTree) : Type 0 where
  pub typed : IsTrue (is_typed n (converted_by r b a y))
  pub is : stepped so_far (step_of (integer_op op) r) (ty_of (converted_by r b a y)) ≡ Some (link_type (rule_type r a b))
  pub has : var_type (rule_type r a b) ≡ Some (link_type (rule_type r a b))
  pub ready : IsTrue (is_ready structs (rule_type r a b))

pub takes_at : (n : Names) (structs : ℕ) (s t : Option VarTy) (r : Rule) (op : BinaryOp) (a b : Value) (y : ExprTree) → t ≡ s → Takes n structs s r op a b y → Takes n structs t r op a b y
takes_at n structs s t r op a b y e h = subst (λ z. Takes n structs z r op a b y) (sym e) h

arithmetic_step : (op : BinOp) (a t : IntType) → is_shift op ≡ false → usual a t ≡ t → stepped (Some (v.Int a)) (link_step.Arithmetic op t) (Some (v.Int t)) ≡ Some (v.Int (binary_type op t))
arithmetic_step op a t s u =
    let fits : (not (is_shift op) && (test.same_int (usual a t) t && test.same_int t t)) ≡ true = both_hold (not (is_shift op)) _ (ap not s) (both_hold (test.same_int (usual a t) t) _ (ap (λ z. test.same_int z t) u ∙ int_self t) (int_self t)) in
    let result : Bool → Option VarTy = λ c. if c then Some (v.Int (binary_type op t)) else None in
    ap result fits

pub numbers_take : (n : Names) (structs : ℕ) (op : BinaryOp) (c a b : IntType) (m k : Bool) (y : ExprTree) → is_shift (integer_op op) ≡ false → usual c (usual a b) ≡ usual a b → binary_type (integer_op op) (usual a b) ≡ usual a b → Fitted n (Int b) y → Takes n structs (Some (v.Int c)) (rule.Arithmetic (usual a b)) op (val (Int a) m) (val (Int b) k) y
unfolding converted_by step_of link_type var_type
numbers_take n structs op c a b m k y s u t h =
    let x = int_fits n b (usual a b) y h in
    record {
      typed = x.typed;
      is = ap (λ z. stepped (Some (v.Int c)) (link_step.Arithmetic (integer_op op) (usual a b)) z) x.has ∙ arithmetic_step (integer_op op) c (usual a b) s u ∙ ap (λ z. Some (v.Int z)) t;
      has = refl;
      ready = usual-promoted a b;
    }

pub truths_take : (n : Names) (structs : ℕ) (op : BinaryOp) (c a b : IntType) (m k : Bool) (y : ExprTree) → is_shift (integer_op op) ≡ false → usual c (usual a b) ≡ usual a b → binary_type (integer_op op) (usual a b) ≡ int.Int → Fitted n (Int b) y → Takes n structs (Some (v.Int c)) (rule.Comparison (usual a b)) op (val (Int a) m) (val (Int b) k) y
unfolding converted_by step_of link_type var_type
truths_take n structs op c a b m k y s u t h =
    let x = int_fits n b (usual a b) y h in
    record {
      typed = x.typed;
      is = ap (λ z. stepped (Some (v.Int c)) (link_step.Arithmetic (integer_op op) (usual a b)) z) x.has ∙ arithmetic_step (integer_op op) c (usual a b) s u ∙ ap (λ z. Some (v.Int z)) t;
      has = refl;
      ready = refl;
    }

shift_step : (left : Bool) (a b : IntType) → stepped (Some (v.Int (promoted a))) (link_step.Shift left) (Some (v.Int (promoted b))) ≡ Some (v.Int (promoted a))
shift_step left a b =
    let result : Bool → Option VarTy = λ c. if c then Some (v.Int (promoted a)) else None in
    ap result (both_hold (is_promoted (promoted a)) _ (promoted-promoted a) (promoted-promoted b))

pub shifts_take : (n : Names) (structs : ℕ) (op : BinaryOp) (a b : IntType) (m k : Bool) (y : ExprTree) → Fitted n (Int b) y → Takes n structs (Some (v.Int (promoted a))) (rule.Shift (promoted a)) op (val (Int a) m) (val (Int b) k) y
unfolding converted_by step_of link_type var_type
shifts_take n structs op a b m k y h =
    let x = promoted_fits n b y h in
    record {
      typed = x.typed;
      is = ap (λ z. stepped (Some (v.Int (promoted a))) (link_step.Shift (is_shift_left (integer_op op))) z) x.has ∙ shift_step (is_shift_left (integer_op op)) a b;
      has = refl;
      ready = promoted-promoted a;
    }

pub moves_take : (n : Names) (structs : ℕ) (op : BinaryOp) (e : Elem) (f : Bool) (b : IntType) (m k : Bool) (y : ExprTree) → IsTrue (is_elem structs (Some e)) → Fitted n (Int b) y → Takes n structs (Some (v.Pointer e f)) rule.Move op (val (Pointer e f) m) (val (Int b) k) y
unfolding converted_by step_of link_type var_type
moves_take n structs op e f b m k y g h = record {
  typed = h.typed;
  is = ap (λ z. stepped (Some (v.Pointer e f)) (link_step.Move (is_subtraction (integer_op op))) z) h.has;
  has = refl;
  ready = g;
}

pub moves_by_take : (n : Names) (structs : ℕ) (op : BinaryOp) (c a : IntType) (e : Elem) (f : Bool) (m k : Bool) (y : ExprTree) → IsTrue (is_elem structs (Some e)) → Fitted n (Pointer e f) y → Takes n structs (Some (v.Int c)) rule.MoveBy op (val (Int a) m) (val (Pointer e f) k) y
unfolding converted_by step_of link_type var_type
moves_by_take n structs op c a e f m k y g h = record {
  typed = h.typed;
  is = ap (λ z. stepped (Some (v.Int c)) link_step.MoveBy z) h.has;
  has = refl;
  ready = g;
}

pub differs_take : (n : Names) (structs : ℕ) (op : BinaryOp) (e e' : Elem) (f f' m k : Bool) (y : ExprTree) → is_same_elem e e' ≡ true → Fitted n (Pointer e' f') y → Takes n structs (Some (v.Pointer e f)) rule.Difference op (val (Pointer e f) m) (val (Pointer e' f') k) y
unfolding converted_by step_of link_type var_type
differs_take n structs op e e' f f' m k y s h =
    let result : Bool → Option VarTy = λ c. if c then Some (v.Int int.Long) else None in
    record {
      typed = h.typed;
      is = ap (λ z. stepped (Some (v.Pointer e f)) link_step.Difference z) h.has ∙ ap result (ap (λ z. test.same_elem e z) (sym (same_elem e e' s)) ∙ elem_self e);
      has = refl;
      ready = refl;
    }

compare_step : (op : BinOp) (e e' : Elem) (f f' : Bool) → is_comparison op ≡ true → is_same_elem e e' ≡ true → stepped (Some (v.Pointer e f)) (link_step.Compare op) (Some (v.Pointer e' f')) ≡ Some (v.Int int.Int)
compare_step op e e' f f' c s = ap int_where (both_hold (is_comparison op) _ c (ap (λ z. test.same_elem e z) (sym (same_elem e e' s)) ∙ elem_self e))

own_step : (op : BinOp) (e : Elem) (f f' : Bool) → is_comparison op ≡ true → stepped (Some (v.Pointer e f)) (link_step.Compare op) (Some (v.Pointer e f')) ≡ Some (v.Int int.Int)
own_step op e f f' c = ap int_where (both_hold (is_comparison op) _ c (elem_self e))

-- the operand isn't null
pub compares_take : (n : Names) (structs : ℕ) (op : BinaryOp) (e e' : Elem) (f f' m : Bool) (y : ExprTree) → is_comparison (integer_op op) ≡ true → is_same_elem e e' ≡ true → Fitted n (Pointer e' f') y → Takes n structs (Some (v.Pointer e f)) rule.ComparePointers op (val (Pointer e f) m) (val (Pointer e' f') false) y
unfolding converted_by step_of link_type var_type
compares_take n structs op e e' f f' m y c s h = record {
  typed = h.typed;
  is = ap (λ z. stepped (Some (v.Pointer e f)) (link_step.Compare (integer_op op)) z) h.has ∙ compare_step (integer_op op) e e' f f' c s;
  has = refl;
  ready = refl;
}

pub null_right_takes : (n : Names) (structs : ℕ) (op : BinaryOp) (e : Elem) (f : Bool) (b : IntType) (m : Bool) (y : ExprTree) → is_comparison (integer_op op) ≡ true → IsTrue (is_elem (length n.structs) (Some e)) → Takes n structs (Some (v.Pointer e f)) rule.ComparePointers op (val (Pointer e f) m) (val (Int b) true) y
unfolding converted_by step_of link_type var_type as_type
null_right_takes n structs op e f b m y c g =
    let x = null_fits n e f y g in
    record {
      typed = x.typed;
      is = ap (λ z. stepped (Some (v.Pointer e f)) (link_step.Compare (integer_op op)) z) x.has ∙ own_step (integer_op op) e f f c;
      has = refl;
      ready = refl;
    }

pub null_left_takes : (n : Names) (structs : ℕ) (op : BinaryOp) (a : IntType) (e : Elem) (f : Bool) (y : ExprTree) → is_comparison (integer_op op) ≡ true → Fitted n (Pointer e f) y → Takes n structs (Some (v.Pointer e f)) rule.ComparePointers op (val (Int a) true) (val (Pointer e f) false) y
unfolding converted_by step_of link_type var_type
null_left_takes n structs op a e f y c h = record {
  typed = h.typed;
  is = ap (λ z. stepped (Some (v.Pointer e f)) (link_step.Compare (integer_op op)) z) h.has ∙ own_step (integer_op op) e f f c;
  has = refl;
  ready = refl;
}

-- ---- the value so far, behind a link

pub later_takes : (n : Names) (structs : ℕ) (op : BinaryOp) (s t : «Type») (m k : Bool) (r : Rule) (y : ExprTree) → Outcome op s m t k r → m ≡ false → (k ≡ true → is_integer t ≡ true) → IsTrue (is_ready structs s) → IsTrue (is_good structs t) → structs ≤ length n.structs → Fitted n t y → Takes n structs (var_type s) r op (val s m) (val t k) y
unfolding var_type
later_takes n structs op s t i j r y (numbers a b m k p c d) pure null ready good below h = numbers_take n structs op a a b m k y p (usual-left a b) d h
later_takes n structs op s t i j r y (truths a b m k p c d) pure null ready good below h = truths_take n structs op a a b m k y p (usual-left a b) d h
later_takes n structs op s t i j r y (shifts a b m k) pure null ready good below h = takes_at n structs (Some (v.Int (promoted a))) (Some (v.Int a)) (rule.Shift (promoted a)) op (val (Int a) m) (val (Int b) k) y (ap (λ z. Some (v.Int z)) (sym (promoted-same a ready))) (shifts_take n structs op a b m k y h)
later_takes n structs op s t i j r y (moves e f b m k) pure null ready good below h = moves_take n structs op e f b m k y ready h
later_takes n structs op s t i j r y (moves_by a e f m k) pure null ready good below h = moves_by_take n structs op a a e f m k y good h
later_takes n structs op s t i j r y (differs e e' f f' m k same) pure null ready good below h = differs_take n structs op e e' f f' m k y same h
later_takes n structs op s t i j r y (compares e e' f f' m true c same) pure null ready good below h = let z : false ≡ true = null refl in cc
later_takes n structs op s t i j r y (compares e e' f f' m false c same) pure null ready good below h = compares_take n structs op e e' f f' m y c same h
later_takes n structs op s t i j r y (null_right e f b m c) pure null ready good below h = null_right_takes n structs op e f b m y c (elem_more structs (length n.structs) e below ready)
later_takes n structs op s t i j r y (null_left a e f k c) pure null ready good below h = cc

-- ---- the first operand, which is converted

pub record First (n : Names) (structs : ℕ) (r : Rule) (op : BinaryOp) (a b : Value) (x y : ExprTree) : Type 0 where
  pub typed : IsTrue (is_typed n (converted_by r a b x))
  pub takes : Takes n structs (ty_of (converted_by r a b x)) r op a b y

first_by : (n : Names) (structs : ℕ) (so_far : Option VarTy) (r : Rule) (op : BinaryOp) (a b : Value) (x y : ExprTree) → IsTrue (is_typed n (converted_by r a b x)) → ty_of (converted_by r a b x) ≡ so_far → Takes n structs so_far r op a b y → First n structs r op a b x y
first_by n structs so_far r op a b x y g e h = record { typed = g; takes = takes_at n structs so_far (ty_of (converted_by r a b x)) r op a b y e h }

pub first_takes : (n : Names) (structs : ℕ) (op : BinaryOp) (s t : «Type») (m k : Bool) (r : Rule) (x y : ExprTree) → Outcome op s m t k r → (m ≡ true → is_integer s ≡ true) → (k ≡ true → is_integer t ≡ true) → IsTrue (is_good structs s) → IsTrue (is_good structs t) → structs ≤ length n.structs → Fitted n s x → Fitted n t y → First n structs r op (val s m) (val t k) x y
unfolding var_type converted_by as_type
first_takes n structs op s t i j r x y (numbers a b m k p c d) null null' good good' below g h =
    let z = int_fits n a (usual a b) x g in
    first_by n structs (Some (v.Int (usual a b))) (rule.Arithmetic (usual a b)) op (val (Int a) m) (val (Int b) k) x y z.typed z.has (numbers_take n structs op (usual a b) a b m k y p (usual-both a b) d h)
first_takes n structs op s t i j r x y (truths a b m k p c d) null null' good good' below g h =
    let z = int_fits n a (usual a b) x g in
    first_by n structs (Some (v.Int (usual a b))) (rule.Comparison (usual a b)) op (val (Int a) m) (val (Int b) k) x y z.typed z.has (truths_take n structs op (usual a b) a b m k y p (usual-both a b) d h)
first_takes n structs op s t i j r x y (shifts a b m k) null null' good good' below g h =
    let z = promoted_fits n a x g in
    first_by n structs (Some (v.Int (promoted a))) (rule.Shift (promoted a)) op (val (Int a) m) (val (Int b) k) x y z.typed z.has (shifts_take n structs op a b m k y h)
first_takes n structs op s t i j r x y (moves e f b m k) null null' good good' below g h = first_by n structs (Some (v.Pointer e f)) rule.Move op (val (Pointer e f) m) (val (Int b) k) x y g.typed g.has (moves_take n structs op e f b m k y good h)
first_takes n structs op s t i j r x y (moves_by a e f m k) null null' good good' below g h = first_by n structs (Some (v.Int a)) rule.MoveBy op (val (Int a) m) (val (Pointer e f) k) x y g.typed g.has (moves_by_take n structs op a a e f m k y good' h)
first_takes n structs op s t i j r x y (differs e e' f f' m k same) null null' good good' below g h = first_by n structs (Some (v.Pointer e f)) rule.Difference op (val (Pointer e f) m) (val (Pointer e' f') k) x y g.typed g.has (differs_take n structs op e e' f f' m k y same h)
first_takes n structs op s t i j r x y (compares e e' f f' true k c same) null null' good good' below g h = let z : false ≡ true = null refl in cc
first_takes n structs op s t i j r x y (compares e e' f f' false true c same) null null' good good' below g h = let z : false ≡ true = null' refl in cc
first_takes n structs op s t i j r x y (compares e e' f f' false false c same) null null' good good' below g h = first_by n structs (Some (v.Pointer e f)) rule.ComparePointers op (val (Pointer e f) false) (val (Pointer e' f') false) x y g.typed g.has (compares_take n structs op e e' f f' false y c same h)
first_takes n structs op s t i j r x y (null_right e f b true c) null null' good good' below g h = let z : false ≡ true = null refl in cc
first_takes n structs op s t i j r x y (null_right e f b false c) null null' good good' below g h = first_by n structs (Some (v.Pointer e f)) rule.ComparePointers op (val (Pointer e f) false) (val (Int b) true) x y g.typed g.has (null_right_takes n structs op e f b false y c (elem_more structs (length n.structs) e below good))
first_takes n structs op s t i j r x y (null_left a e f true c) null null' good good' below g h = let z : false ≡ true = null' refl in cc
first_takes n structs op s t i j r x y (null_left a e f false c) null null' good good' below g h =
    let z = null_fits n e f x (elem_more structs (length n.structs) e below good') in
    first_by n structs (Some (v.Pointer e f)) rule.ComparePointers op (val (Int a) true) (val (Pointer e f) false) x y z.typed z.has (null_left_takes n structs op a e f y c h)
