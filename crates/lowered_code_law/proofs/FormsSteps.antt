-- Operators and conversions of values that fit.
use Rattle.std.proofs.Common.{◌≡◌, ◌∙◌, ℕ, ℤ, refl, ap, sym, subst, pos, Bool, true, false, Option, Some, None, length, if◌then◌else◌}
use Rattle.std.specs.Prelude.{◌&&◌, ◌||◌, not, is_some}
use Rattle.pt_base.specs.IntTypes.{promoted, usual}
use Rattle.pt_base.specs.declared.int_type.IntType.{IntType}
use Rattle.pt_base.specs.declared.int_type.IntType.TheVariants as i
use Rattle.pt_base.specs.declared.span.Span.{Span}
use Rattle.pt_base.proofs.Booleans.{both_hold, both_hold_first, both_hold_second, false_not_true, from_not_true}
use Rattle.pt_int.specs.declared.operator.BinOp.{BinOp}
use Rattle.pt_int.specs.declared.operator.BinOp.TheVariants.{Mul, Div, Rem, Add, Sub, Shl, Shr, Lt, Gt, Le, Ge, Eq, Ne, And, Xor, Or}
use Rattle.pt_int.specs.declared.operator.UnOp.{UnOp}
use Rattle.pt_int.specs.declared.operator.UnOp.TheVariants.{Minus, Plus, Flip, Not}
use Rattle.pt_int.specs.Conversion.{is_in_range}
use Rattle.pt_int.specs.Operator.{is_shift, binary_type, unary_type}
use Rattle.pt_tree.specs.declared.signature.Elem.{Elem}
use Rattle.typed_tree.specs.declared.types.VarTy.{VarTy}
use Rattle.typed_tree.specs.declared.types.VarTy.TheVariants.{Int, Struct, Array, Pointer}
use Rattle.typed_tree.specs.declared.link.LinkStep.{LinkStep}
use Rattle.typed_tree.specs.declared.link.LinkStep.TheVariants.{Arithmetic, Shift, Move, MoveBy, Difference, Compare}
use Rattle.typed_tree.specs.TypeTests.{same_int, same_elem, same_types, both_elem, integer_of, pointee_of, is_scalar}
use Rattle.typed_tree.specs.TypeRules as r
use Rattle.typed_tree.specs.TypeRules.{arithmetic_type, shift_type, moved_type, int_where, is_comparison, is_promoted, promoted_value, converts, unary_fits, is_same_promoted}
use Rattle.typed_tree.specs.WellFormedExpression.{is_elem}
use Rattle.typed_tree.specs.WellFormed.{is_variable_type}
use Rattle.pt_core.specs.CodeTree.{ExprTree, constant, unary, binary, convert, null, move, compare, difference}
use Rattle.pt_core.specs.Types.{Context, type_of}
use Rattle.pt_core.specs.WellFormedExpression.{stands_for, expr_fits, takes_one, takes_two}
use Rattle.lowering.specs.Operators.{as_int, converted, prefixed, truth_of, shift_of, stepped, stored, unit_step, unit_of}
use Rattle.lowered_code_law.proofs.FormsSettings.{ValueFits}
use Rattle.typed_tree.proofs.SameTypes.{elem_self, equal_elems, equal_ints, equal_types, int_self}
use Rattle.lowered_code_law.proofs.FormsSameTypes.{keeps_both, points, promoted_promoted, promoted_same, stands_int, stands_pointer, usual_both, usual_same}

-- ---- parts of tests

holds_when : (c : Bool) (x y : VarTy) → (if c then Some x else None) ≡ Some y → c ≡ true
holds_when true x y h = refl
holds_when false x y h = cc

when : (c : Bool) (x y : VarTy) → (if c then Some x else None) ≡ Some y → x ≡ y
when true x y h = cc
when false x y h = cc

pub integer_is : (o : Option VarTy) (t : IntType) → integer_of o ≡ Some t → o ≡ Some (Int t)
integer_is None t h = cc
integer_is (Some (Int a)) t h = cc
integer_is (Some (Struct n)) t h = cc
integer_is (Some (Array a n)) t h = cc
integer_is (Some (Pointer a f)) t h = cc

pub record PointerIs (o : Option VarTy) (elem : Elem) : Type 0 where
  pub fixed : Bool
  pub is : o ≡ Some (Pointer elem fixed)

pub pointee_is : (o : Option VarTy) (elem : Elem) → pointee_of o ≡ Some elem → PointerIs o elem
pointee_is (Some (Pointer a f)) elem h = record { fixed = f; is = cc }
pointee_is None elem h = cc
pointee_is (Some (Int a)) elem h = cc
pointee_is (Some (Struct n)) elem h = cc
pointee_is (Some (Array a n)) elem h = cc

pub one_type : (a b : VarTy) → Some a ≡ Some b → a ≡ b
one_type a b h = cc

-- ---- values

pub int_value : (c : Context) (t : IntType) (x : ExprTree) → expr_fits c x ≡ true → type_of c x ≡ Int t → ValueFits c (Int t) x
int_value c t x h is = record { fits = h; type = subst (λ z. stands_for z (Int t) ≡ true) (sym is) (int_self t) }

pub constant_fits : (c : Context) (t : IntType) (v : ℤ) → is_in_range t v ≡ true → ValueFits c (Int t) (constant t v)
constant_fits c t v h = record { fits = h; type = int_self t }

pub null_fits : (c : Context) (elem : Elem) (f : Bool) → is_elem (length c.structs) (Some elem) ≡ true → ValueFits c (Pointer elem f) (null elem)
null_fits c elem f h = record { fits = h; type = points elem false f refl }

pub convert_fits : (c : Context) (a t : IntType) (x : ExprTree) → ValueFits c (Int a) x → ValueFits c (Int t) (convert t x)
convert_fits c a t x v = record {
  fits = both_hold (expr_fits c x) (is_some (integer_of (Some (type_of c x)))) v.fits (subst (λ z. is_some (integer_of (Some z)) ≡ true) (sym (stands_int (type_of c x) a v.type)) refl);
  type = int_self t;
}

pub as_int_fits : (c : Context) (a t : IntType) (x : ExprTree) → ValueFits c (Int a) x → ValueFits c (Int t) (as_int (Int a) t x)
as_int_fits c a t x v = go (same_int a t) refl
  where
    go : (b : Bool) → same_int a t ≡ b → ValueFits c (Int t) (if b then x else convert t x)
    go true is = subst (λ z. ValueFits c (Int z) x) (equal_ints a t is) v
    go false is = convert_fits c a t x v

-- ---- operators between integers

plain_two : (op : BinOp) (t : IntType) → is_shift op ≡ false → same_int (usual t t) t ≡ true → takes_two op t (Int t) (Int t) ≡ true
plain_two op t h k = both_hold (same_int t t) (is_some (if is_shift op then shift_type (Some t) (Some t) else arithmetic_type op t (Some t) (Some t))) (int_self t) (go (is_shift op) h (same_int (usual t t) t) k (same_int t t) (int_self t))
  where
    go : (a : Bool) → a ≡ false → (b : Bool) → b ≡ true → (d : Bool) → d ≡ true → is_some (if a then shift_type (Some t) (Some t) else (if not a && (b && d) then Some (Int (binary_type op t)) else None)) ≡ true
    go true p b q d u = false_not_true (sym p)
    go false p true q true u = refl
    go false p false q d u = false_not_true q
    go false p true q false u = false_not_true u

pub binary_fits : (c : Context) (op : BinOp) (t : IntType) (x y : ExprTree) (s : Span) → is_shift op ≡ false → same_int (usual t t) t ≡ true → ValueFits c (Int t) x → ValueFits c (Int t) y → ValueFits c (Int (binary_type op t)) (binary op t x y s)
binary_fits c op t x y s h k v w = record {
  fits = both_hold (expr_fits c x && expr_fits c y) (takes_two op t (type_of c x) (type_of c y)) (both_hold (expr_fits c x) (expr_fits c y) v.fits w.fits)
      (subst (λ a. takes_two op t a (type_of c y) ≡ true) (sym (stands_int (type_of c x) t v.type)) (subst (λ b. takes_two op t (Int t) b ≡ true) (sym (stands_int (type_of c y) t w.type)) (plain_two op t h k)));
  type = int_self (binary_type op t);
}

shift_two : (left : Bool) (t u : IntType) → is_promoted t ≡ true → is_promoted u ≡ true → takes_two (shift_of left) t (Int t) (Int u) ≡ true
shift_two true t u h k = both_hold (same_int t t) (is_some (shift_type (Some t) (Some u))) (int_self t) (go (is_promoted t) h (is_promoted u) k)
  where
    go : (a : Bool) → a ≡ true → (b : Bool) → b ≡ true → is_some (if a && b then Some (Int t) else None) ≡ true
    go true p true q = refl
    go true p false q = false_not_true q
    go false p b q = false_not_true p
shift_two false t u h k = both_hold (same_int t t) (is_some (shift_type (Some t) (Some u))) (int_self t) (go (is_promoted t) h (is_promoted u) k)
  where
    go : (a : Bool) → a ≡ true → (b : Bool) → b ≡ true → is_some (if a && b then Some (Int t) else None) ≡ true
    go true p true q = refl
    go true p false q = false_not_true q
    go false p b q = false_not_true p

shift_result : (left : Bool) (t : IntType) → binary_type (shift_of left) t ≡ t
shift_result true t = refl
shift_result false t = refl

pub shift_fits : (c : Context) (left : Bool) (t u : IntType) (x y : ExprTree) (s : Span) → is_promoted t ≡ true → is_promoted u ≡ true → ValueFits c (Int t) x → ValueFits c (Int u) y → ValueFits c (Int t) (binary (shift_of left) t x y s)
shift_fits c left t u x y s h k v w = int_value c t (binary (shift_of left) t x y s)
    (both_hold (expr_fits c x && expr_fits c y) (takes_two (shift_of left) t (type_of c x) (type_of c y)) (both_hold (expr_fits c x) (expr_fits c y) v.fits w.fits)
    (subst (λ a. takes_two (shift_of left) t a (type_of c y) ≡ true) (sym (stands_int (type_of c x) t v.type)) (subst (λ b. takes_two (shift_of left) t (Int t) b ≡ true) (sym (stands_int (type_of c y) u w.type)) (shift_two left t u h k))))
    (ap Int (shift_result left t))

-- ---- pointers

pub move_fits : (c : Context) (elem : Elem) (f : Bool) (t : IntType) (x y : ExprTree) (back : Bool) (s : Span) → ValueFits c (Pointer elem f) x → ValueFits c (Int t) y → ValueFits c (Pointer elem f) (move x y back s)
move_fits c elem f t x y back s v w = record {
  fits = both_hold (expr_fits c x && expr_fits c y) (is_some (r.stepped (Some (type_of c x)) (Move back) (Some (type_of c y)))) (both_hold (expr_fits c x) (expr_fits c y) v.fits w.fits)
      (let p = stands_pointer (type_of c x) elem f v.type in
      subst (λ a. is_some (r.stepped (Some a) (Move back) (Some (type_of c y))) ≡ true) (sym p.is) (subst (λ b. is_some (r.stepped (Some (Pointer elem p.own)) (Move back) (Some b)) ≡ true) (sym (stands_int (type_of c y) t w.type)) refl));
  type = v.type;
}

compared : (op : BinOp) (elem : Elem) → is_comparison op ≡ true → is_some (int_where (is_comparison op && same_elem elem elem)) ≡ true
compared op elem h = go (is_comparison op) h (same_elem elem elem) (elem_self elem)
  where
    go : (a : Bool) → a ≡ true → (b : Bool) → b ≡ true → is_some (int_where (a && b)) ≡ true
    go true p true q = refl
    go true p false q = false_not_true q
    go false p b q = false_not_true p

pub compare_fits : (c : Context) (op : BinOp) (elem : Elem) (f g : Bool) (x y : ExprTree) (s : Span) → is_comparison op ≡ true → ValueFits c (Pointer elem f) x → ValueFits c (Pointer elem g) y → ValueFits c (Int i.Int) (compare op x y s)
compare_fits c op elem f g x y s h v w = record {
  fits = both_hold (expr_fits c x && expr_fits c y) (is_some (r.stepped (Some (type_of c x)) (Compare op) (Some (type_of c y)))) (both_hold (expr_fits c x) (expr_fits c y) v.fits w.fits)
      (let p = stands_pointer (type_of c x) elem f v.type in let q = stands_pointer (type_of c y) elem g w.type in
      subst (λ a. is_some (r.stepped (Some a) (Compare op) (Some (type_of c y))) ≡ true) (sym p.is) (subst (λ b. is_some (r.stepped (Some (Pointer elem p.own)) (Compare op) (Some b)) ≡ true) (sym q.is) (compared op elem h)));
  type = refl;
}

subtracted : (elem : Elem) → is_some (if same_elem elem elem then Some (Int i.Long) else None) ≡ true
subtracted elem = go (same_elem elem elem) (elem_self elem)
  where
    go : (a : Bool) → a ≡ true → is_some (if a then Some (Int i.Long) else None) ≡ true
    go true p = refl
    go false p = false_not_true p

pub difference_fits : (c : Context) (elem : Elem) (f g : Bool) (x y : ExprTree) (s : Span) → ValueFits c (Pointer elem f) x → ValueFits c (Pointer elem g) y → ValueFits c (Int i.Long) (difference x y s)
difference_fits c elem f g x y s v w = record {
  fits = both_hold (expr_fits c x && expr_fits c y) (is_some (r.stepped (Some (type_of c x)) Difference (Some (type_of c y)))) (both_hold (expr_fits c x) (expr_fits c y) v.fits w.fits)
      (let p = stands_pointer (type_of c x) elem f v.type in let q = stands_pointer (type_of c y) elem g w.type in
      subst (λ a. is_some (r.stepped (Some a) Difference (Some (type_of c y))) ≡ true) (sym p.is) (subst (λ b. is_some (r.stepped (Some (Pointer elem p.own)) Difference (Some b)) ≡ true) (sym q.is) (subtracted elem)));
  type = refl;
}

-- ---- what the rules of types say of a step

pub record ArithmeticStep (op : BinOp) (t : IntType) (a b : Option VarTy) (ty : VarTy) : Type 0 where
  pub from : IntType
  pub left : a ≡ Some (Int from)
  pub right : b ≡ Some (Int t)
  pub result : Int (binary_type op t) ≡ ty
  pub plain : is_shift op ≡ false
  pub common : same_int (usual from t) t ≡ true

pub arithmetic_step : (op : BinOp) (t : IntType) (a b : Option VarTy) (ty : VarTy) → arithmetic_type op t (integer_of a) (integer_of b) ≡ Some ty → ArithmeticStep op t a b ty
arithmetic_step op t a b ty h = go (integer_of a) (integer_of b) refl refl h
  where
    go : (x y : Option IntType) → integer_of a ≡ x → integer_of b ≡ y → arithmetic_type op t x y ≡ Some ty → ArithmeticStep op t a b ty
    go None y p q h = cc
    go (Some x) None p q h = cc
    go (Some x) (Some y) p q h =
        let test = holds_when (not (is_shift op) && (same_int (usual x t) t && same_int y t)) (Int (binary_type op t)) ty h in
        let types = both_hold_second (not (is_shift op)) (same_int (usual x t) t && same_int y t) test in
        record {
          from = x;
          left = integer_is a x p;
          right = integer_is b y q ∙ ap (λ z. Some (Int z)) (equal_ints y t (both_hold_second (same_int (usual x t) t) (same_int y t) types));
          result = when (not (is_shift op) && (same_int (usual x t) t && same_int y t)) (Int (binary_type op t)) ty h;
          plain = from_not_true (is_shift op) (both_hold_first (not (is_shift op)) (same_int (usual x t) t && same_int y t) test);
          common = both_hold_first (same_int (usual x t) t) (same_int y t) types;
        }

pub record ShiftStep (a b : Option VarTy) (ty : VarTy) : Type 0 where
  pub from : IntType
  pub by : IntType
  pub left : a ≡ Some (Int from)
  pub right : b ≡ Some (Int by)
  pub result : Int from ≡ ty
  pub promoted : is_promoted from ≡ true
  pub amount : is_promoted by ≡ true

pub shift_step : (a b : Option VarTy) (ty : VarTy) → shift_type (integer_of a) (integer_of b) ≡ Some ty → ShiftStep a b ty
shift_step a b ty h = go (integer_of a) (integer_of b) refl refl h
  where
    go : (x y : Option IntType) → integer_of a ≡ x → integer_of b ≡ y → shift_type x y ≡ Some ty → ShiftStep a b ty
    go None y p q h = cc
    go (Some x) None p q h = cc
    go (Some x) (Some y) p q h =
        let test = holds_when (is_promoted x && is_promoted y) (Int x) ty h in
        record { from = x; by = y; left = integer_is a x p; right = integer_is b y q; result = when (is_promoted x && is_promoted y) (Int x) ty h; promoted = both_hold_first (is_promoted x) (is_promoted y) test; amount = both_hold_second (is_promoted x) (is_promoted y) test }

pub record MoveStep (a b : Option VarTy) (ty : VarTy) : Type 0 where
  pub elem : Elem
  pub fixed : Bool
  pub by : IntType
  pub left : a ≡ Some (Pointer elem fixed)
  pub right : b ≡ Some (Int by)
  pub result : Pointer elem fixed ≡ ty

pub move_step : (a b : Option VarTy) (ty : VarTy) → moved_type a b ≡ Some ty → MoveStep a b ty
move_step (Some (Pointer elem fixed)) (Some (Int t)) ty h = record { elem = elem; fixed = fixed; by = t; left = refl; right = refl; result = one_type (Pointer elem fixed) ty h }
move_step (Some (Pointer elem fixed)) None ty h = cc
move_step (Some (Pointer elem fixed)) (Some (Struct n)) ty h = cc
move_step (Some (Pointer elem fixed)) (Some (Array a n)) ty h = cc
move_step (Some (Pointer elem fixed)) (Some (Pointer a g)) ty h = cc
move_step None b ty h = cc
move_step (Some (Int t)) b ty h = cc
move_step (Some (Struct n)) b ty h = cc
move_step (Some (Array a n)) b ty h = cc

pub record PairStep (a b : Option VarTy) : Type 0 where
  pub elem : Elem
  pub first : Bool
  pub second : Bool
  pub left : a ≡ Some (Pointer elem first)
  pub right : b ≡ Some (Pointer elem second)

pub pair_step : (a b : Option VarTy) → both_elem (pointee_of a) (pointee_of b) ≡ true → PairStep a b
pair_step (Some (Pointer e f)) (Some (Pointer d g)) h = record { elem = e; first = f; second = g; left = refl; right = ap (λ z. Some (Pointer z g)) (sym (equal_elems e d h)) }
pair_step (Some (Pointer e f)) None h = cc
pair_step (Some (Pointer e f)) (Some (Int t)) h = cc
pair_step (Some (Pointer e f)) (Some (Struct n)) h = cc
pair_step (Some (Pointer e f)) (Some (Array d n)) h = cc
pair_step None b h = cc
pair_step (Some (Int t)) b h = cc
pair_step (Some (Struct n)) b h = cc
pair_step (Some (Array e n)) b h = cc

-- ---- steps

-- the operands of a step are integers or pointers
pub record Operands (a b : Option VarTy) : Type 0 where
  pub left : VarTy
  pub right : VarTy
  pub from : a ≡ Some left
  pub by : b ≡ Some right
  pub left_scalar : is_scalar (Some left) ≡ true
  pub right_scalar : is_scalar (Some right) ≡ true

pub step_operands : (step : LinkStep) (a b : Option VarTy) (ty : VarTy) → r.stepped a step b ≡ Some ty → Operands a b
step_operands (Arithmetic op t) a b ty h = let k = arithmetic_step op t a b ty h in record { left = Int k.from; right = Int t; from = k.left; by = k.right; left_scalar = refl; right_scalar = refl }
step_operands (Shift to_left) a b ty h = let k = shift_step a b ty h in record { left = Int k.from; right = Int k.by; from = k.left; by = k.right; left_scalar = refl; right_scalar = refl }
step_operands (Move back) a b ty h = let k = move_step a b ty h in record { left = Pointer k.elem k.fixed; right = Int k.by; from = k.left; by = k.right; left_scalar = refl; right_scalar = refl }
step_operands MoveBy a b ty h = let k = move_step b a ty h in record { left = Int k.by; right = Pointer k.elem k.fixed; from = k.right; by = k.left; left_scalar = refl; right_scalar = refl }
step_operands Difference a b ty h =
    let k = pair_step a b (holds_when (both_elem (pointee_of a) (pointee_of b)) (Int i.Long) ty h) in
    record { left = Pointer k.elem k.first; right = Pointer k.elem k.second; from = k.left; by = k.right; left_scalar = refl; right_scalar = refl }
step_operands (Compare op) a b ty h =
    let k = pair_step a b (both_hold_second (is_comparison op) (both_elem (pointee_of a) (pointee_of b)) (holds_when (is_comparison op && both_elem (pointee_of a) (pointee_of b)) (Int i.Int) ty h)) in
    record { left = Pointer k.elem k.first; right = Pointer k.elem k.second; from = k.left; by = k.right; left_scalar = refl; right_scalar = refl }

arithmetic_case : (c : Context) (op : BinOp) (t u : IntType) (a b ty : VarTy) (x y : ExprTree) (s : Span) → a ≡ Int u → b ≡ Int t → Int (binary_type op t) ≡ ty → is_shift op ≡ false → same_int (usual u t) t ≡ true →
    ValueFits c a x → ValueFits c b y → ValueFits c ty (stepped a (Arithmetic op t) x y s)
arithmetic_case c op t u a b ty x y s p q z plain common v w =
    subst (λ m. ValueFits c ty (stepped m (Arithmetic op t) x y s)) (sym p) (subst (λ m. ValueFits c m (binary op t (as_int (Int u) t x) y s)) z
    (binary_fits c op t (as_int (Int u) t x) y s plain (usual_same u t common) (as_int_fits c u t x (subst (λ m. ValueFits c m x) p v)) (subst (λ m. ValueFits c m y) q w)))

shift_case : (c : Context) (left : Bool) (t u : IntType) (a b ty : VarTy) (x y : ExprTree) (s : Span) → a ≡ Int t → b ≡ Int u → Int t ≡ ty → is_promoted t ≡ true → is_promoted u ≡ true →
    ValueFits c a x → ValueFits c b y → ValueFits c ty (stepped a (Shift left) x y s)
shift_case c left t u a b ty x y s p q z h k v w =
    subst (λ m. ValueFits c ty (stepped m (Shift left) x y s)) (sym p) (subst (λ m. ValueFits c m (binary (shift_of left) (promoted t) (as_int (Int t) (promoted t) x) y s)) (ap Int (promoted_same t h) ∙ z)
    (shift_fits c left (promoted t) u (as_int (Int t) (promoted t) x) y s (promoted_promoted t) k (as_int_fits c t (promoted t) x (subst (λ m. ValueFits c m x) p v)) (subst (λ m. ValueFits c m y) q w)))

pub step_fits : (c : Context) (step : LinkStep) (a b ty : VarTy) (x y : ExprTree) (s : Span) → r.stepped (Some a) step (Some b) ≡ Some ty → ValueFits c a x → ValueFits c b y → ValueFits c ty (stepped a step x y s)
step_fits c (Arithmetic op t) a b ty x y s h v w = let k = arithmetic_step op t (Some a) (Some b) ty h in
    arithmetic_case c op t k.from a b ty x y s (one_type a (Int k.from) k.left) (one_type b (Int t) k.right) k.result k.plain k.common v w
step_fits c (Shift to_left) a b ty x y s h v w = let k = shift_step (Some a) (Some b) ty h in
    shift_case c to_left k.from k.by a b ty x y s (one_type a (Int k.from) k.left) (one_type b (Int k.by) k.right) k.result k.promoted k.amount v w
step_fits c (Move back) a b ty x y s h v w = let k = move_step (Some a) (Some b) ty h in
    subst (λ m. ValueFits c m (move x y back s)) k.result (move_fits c k.elem k.fixed k.by x y back s (subst (λ m. ValueFits c m x) (one_type a (Pointer k.elem k.fixed) k.left) v) (subst (λ m. ValueFits c m y) (one_type b (Int k.by) k.right) w))
step_fits c MoveBy a b ty x y s h v w = let k = move_step (Some b) (Some a) ty h in
    subst (λ m. ValueFits c m (move y x false s)) k.result (move_fits c k.elem k.fixed k.by y x false s (subst (λ m. ValueFits c m y) (one_type b (Pointer k.elem k.fixed) k.left) w) (subst (λ m. ValueFits c m x) (one_type a (Int k.by) k.right) v))
step_fits c Difference a b ty x y s h v w =
    let k = pair_step (Some a) (Some b) (holds_when (both_elem (pointee_of (Some a)) (pointee_of (Some b))) (Int i.Long) ty h) in
    subst (λ m. ValueFits c m (difference x y s)) (when (both_elem (pointee_of (Some a)) (pointee_of (Some b))) (Int i.Long) ty h)
    (difference_fits c k.elem k.first k.second x y s (subst (λ m. ValueFits c m x) (one_type a (Pointer k.elem k.first) k.left) v) (subst (λ m. ValueFits c m y) (one_type b (Pointer k.elem k.second) k.right) w))
step_fits c (Compare op) a b ty x y s h v w =
    let test = holds_when (is_comparison op && both_elem (pointee_of (Some a)) (pointee_of (Some b))) (Int i.Int) ty h in
    let k = pair_step (Some a) (Some b) (both_hold_second (is_comparison op) (both_elem (pointee_of (Some a)) (pointee_of (Some b))) test) in
    subst (λ m. ValueFits c m (compare op x y s)) (when (is_comparison op && both_elem (pointee_of (Some a)) (pointee_of (Some b))) (Int i.Int) ty h)
    (compare_fits c op k.elem k.first k.second x y s (both_hold_first (is_comparison op) (both_elem (pointee_of (Some a)) (pointee_of (Some b))) test)
    (subst (λ m. ValueFits c m x) (one_type a (Pointer k.elem k.first) k.left) v) (subst (λ m. ValueFits c m y) (one_type b (Pointer k.elem k.second) k.right) w))

-- a step gives an integer or a pointer
pub step_scalar : (step : LinkStep) (a b : Option VarTy) (ty : VarTy) → r.stepped a step b ≡ Some ty → is_scalar (Some ty) ≡ true
step_scalar (Arithmetic op t) a b ty h = subst (λ m. is_scalar (Some m) ≡ true) (arithmetic_step op t a b ty h).result refl
step_scalar (Shift to_left) a b ty h = subst (λ m. is_scalar (Some m) ≡ true) (shift_step a b ty h).result refl
step_scalar (Move back) a b ty h = subst (λ m. is_scalar (Some m) ≡ true) (move_step a b ty h).result refl
step_scalar MoveBy a b ty h = subst (λ m. is_scalar (Some m) ≡ true) (move_step b a ty h).result refl
step_scalar Difference a b ty h = subst (λ m. is_scalar (Some m) ≡ true) (when (both_elem (pointee_of a) (pointee_of b)) (Int i.Long) ty h) refl
step_scalar (Compare op) a b ty h = subst (λ m. is_scalar (Some m) ≡ true) (when (is_comparison op && both_elem (pointee_of a) (pointee_of b)) (Int i.Int) ty h) refl

-- a pointer that a step gives was one of its operands
pub step_known : (n : ℕ) (step : LinkStep) (a b ty : VarTy) → r.stepped (Some a) step (Some b) ≡ Some ty → is_variable_type n a ≡ true → is_variable_type n b ≡ true → (is_scalar (Some ty) && is_variable_type n ty) ≡ true
step_known n (Arithmetic op t) a b ty h p q = subst (λ m. (is_scalar (Some m) && is_variable_type n m) ≡ true) (arithmetic_step op t (Some a) (Some b) ty h).result refl
step_known n (Shift to_left) a b ty h p q = subst (λ m. (is_scalar (Some m) && is_variable_type n m) ≡ true) (shift_step (Some a) (Some b) ty h).result refl
step_known n (Move back) a b ty h p q = let k = move_step (Some a) (Some b) ty h in
    subst (λ m. (is_scalar (Some m) && is_variable_type n m) ≡ true) k.result (subst (λ m. is_variable_type n m ≡ true) (one_type a (Pointer k.elem k.fixed) k.left) p)
step_known n MoveBy a b ty h p q = let k = move_step (Some b) (Some a) ty h in
    subst (λ m. (is_scalar (Some m) && is_variable_type n m) ≡ true) k.result (subst (λ m. is_variable_type n m ≡ true) (one_type b (Pointer k.elem k.fixed) k.left) q)
step_known n Difference a b ty h p q = subst (λ m. (is_scalar (Some m) && is_variable_type n m) ≡ true) (when (both_elem (pointee_of (Some a)) (pointee_of (Some b))) (Int i.Long) ty h) refl
step_known n (Compare op) a b ty h p q = subst (λ m. (is_scalar (Some m) && is_variable_type n m) ≡ true) (when (is_comparison op && both_elem (pointee_of (Some a)) (pointee_of (Some b))) (Int i.Int) ty h) refl

-- ---- compound assignments

no_comparison : (op : BinOp) (t : IntType) → is_comparison op ≡ false → binary_type op t ≡ t
no_comparison Mul t h = refl
no_comparison Div t h = refl
no_comparison Rem t h = refl
no_comparison Add t h = refl
no_comparison Sub t h = refl
no_comparison Shl t h = refl
no_comparison Shr t h = refl
no_comparison And t h = refl
no_comparison Xor t h = refl
no_comparison Or t h = refl
no_comparison Lt t h = false_not_true (sym h)
no_comparison Gt t h = false_not_true (sym h)
no_comparison Le t h = false_not_true (sym h)
no_comparison Ge t h = false_not_true (sym h)
no_comparison Eq t h = false_not_true (sym h)
no_comparison Ne t h = false_not_true (sym h)

int_stored : (c : Context) (op : BinOp) (t u : IntType) (b : VarTy) (x y : ExprTree) (s : Span) → is_comparison op ≡ false → is_shift op ≡ false → same_int (usual (promoted t) u) u ≡ true → b ≡ Int u → ValueFits c (Int t) x → ValueFits c b y →
    ValueFits c (Int t) (stored (Int t) (Arithmetic op u) (stepped (Int t) (Arithmetic op u) x y s))
int_stored c op t u b x y s told plain common is v w = as_int_fits c u t (binary op u (as_int (Int t) u x) y s)
    (subst (λ m. ValueFits c (Int m) (binary op u (as_int (Int t) u x) y s)) (no_comparison op u told)
    (binary_fits c op u (as_int (Int t) u x) y s plain (usual_same (promoted t) u common) (as_int_fits c t u x v) (subst (λ m. ValueFits c m y) is w)))

int_shifted : (c : Context) (left : Bool) (t u : IntType) (b : VarTy) (x y : ExprTree) (s : Span) → is_promoted u ≡ true → b ≡ Int u → ValueFits c (Int t) x → ValueFits c b y →
    ValueFits c (Int t) (stored (Int t) (Shift left) (stepped (Int t) (Shift left) x y s))
int_shifted c left t u b x y s h is v w = as_int_fits c (promoted t) t (binary (shift_of left) (promoted t) (as_int (Int t) (promoted t) x) y s)
    (shift_fits c left (promoted t) u (as_int (Int t) (promoted t) x) y s (promoted_promoted t) h (as_int_fits c t (promoted t) x v) (subst (λ m. ValueFits c m y) is w))

-- what is stored of a compound assignment
pub compound_fits : (c : Context) (step : LinkStep) (ty b : VarTy) (x y : ExprTree) (s : Span) → r.is_compound step ≡ true → converts (r.stepped (promoted_value (Some ty)) step (Some b)) (Some ty) ≡ true → ValueFits c ty x → ValueFits c b y →
    ValueFits c ty (stored ty step (stepped ty step x y s))
compound_fits c (Arithmetic op u) (Int t) b x y s comp h v w = go (r.stepped (Some (Int (promoted t))) (Arithmetic op u) (Some b)) refl h
  where
    go : (o : Option VarTy) → r.stepped (Some (Int (promoted t))) (Arithmetic op u) (Some b) ≡ o → converts o (Some (Int t)) ≡ true → ValueFits c (Int t) (stored (Int t) (Arithmetic op u) (stepped (Int t) (Arithmetic op u) x y s))
    go None e k = false_not_true k
    go (Some m) e k = let a = arithmetic_step op u (Some (Int (promoted t))) (Some b) m e in
        int_stored c op t u b x y s (from_not_true (is_comparison op) comp) a.plain (subst (λ z. same_int (usual z u) u ≡ true) (from_is a.from a.left) a.common) (one_type b (Int u) a.right) v w
      where
        from_is : (z : IntType) → Some (Int (promoted t)) ≡ Some (Int z) → z ≡ promoted t
        from_is z e = cc
compound_fits c (Shift to_left) (Int t) b x y s comp h v w = go (r.stepped (Some (Int (promoted t))) (Shift to_left) (Some b)) refl h
  where
    go : (o : Option VarTy) → r.stepped (Some (Int (promoted t))) (Shift to_left) (Some b) ≡ o → converts o (Some (Int t)) ≡ true → ValueFits c (Int t) (stored (Int t) (Shift to_left) (stepped (Int t) (Shift to_left) x y s))
    go None e k = false_not_true k
    go (Some m) e k = let a = shift_step (Some (Int (promoted t))) (Some b) m e in int_shifted c to_left t a.by b x y s a.amount (one_type b (Int a.by) a.right) v w
compound_fits c (Move back) (Int t) b x y s comp h v w = false_not_true h
compound_fits c (Arithmetic op u) (Pointer e f) b x y s comp h v w = false_not_true h
compound_fits c (Shift to_left) (Pointer e f) b x y s comp h v w = false_not_true h
compound_fits c (Move back) (Pointer e f) (Int u) x y s comp h v w = move_fits c e f u x y back s v w
compound_fits c (Move back) (Pointer e f) (Struct n) x y s comp h v w = false_not_true h
compound_fits c (Move back) (Pointer e f) (Array d n) x y s comp h v w = false_not_true h
compound_fits c (Move back) (Pointer e f) (Pointer d g) x y s comp h v w = false_not_true h
compound_fits c (Arithmetic op u) (Struct n) b x y s comp h v w = false_not_true h
compound_fits c (Shift to_left) (Struct n) b x y s comp h v w = false_not_true h
compound_fits c (Move back) (Struct n) b x y s comp h v w = false_not_true h
compound_fits c (Arithmetic op u) (Array e n) b x y s comp h v w = false_not_true h
compound_fits c (Shift to_left) (Array e n) b x y s comp h v w = false_not_true h
compound_fits c (Move back) (Array e n) b x y s comp h v w = false_not_true h
compound_fits c MoveBy ty b x y s comp h v w = false_not_true comp
compound_fits c Difference ty b x y s comp h v w = false_not_true comp
compound_fits c (Compare op) ty b x y s comp h v w = false_not_true comp

one_fits : (t : IntType) → is_in_range t (pos 1) ≡ true
one_fits i.Char = refl
one_fits i.SChar = refl
one_fits i.UChar = refl
one_fits i.Short = refl
one_fits i.UShort = refl
one_fits i.Int = refl
one_fits i.UInt = refl
one_fits i.Long = refl
one_fits i.ULong = refl

-- 1 is added or subtracted
pub counted_fits : (c : Context) (ty : VarTy) (back : Bool) (x : ExprTree) (s : Span) → is_scalar (Some ty) ≡ true → ValueFits c ty x → ValueFits c ty (stored ty (unit_step ty back) (stepped ty (unit_step ty back) x (unit_of ty) s))
counted_fits c (Int t) true x s h v = as_int_fits c (usual t i.Int) t (binary Sub (usual t i.Int) (as_int (Int t) (usual t i.Int) x) (constant (usual t i.Int) (pos 1)) s)
    (binary_fits c Sub (usual t i.Int) (as_int (Int t) (usual t i.Int) x) (constant (usual t i.Int) (pos 1)) s refl (usual_both t i.Int) (as_int_fits c t (usual t i.Int) x v) (constant_fits c (usual t i.Int) (pos 1) (one_fits (usual t i.Int))))
counted_fits c (Int t) false x s h v = as_int_fits c (usual t i.Int) t (binary Add (usual t i.Int) (as_int (Int t) (usual t i.Int) x) (constant (usual t i.Int) (pos 1)) s)
    (binary_fits c Add (usual t i.Int) (as_int (Int t) (usual t i.Int) x) (constant (usual t i.Int) (pos 1)) s refl (usual_both t i.Int) (as_int_fits c t (usual t i.Int) x v) (constant_fits c (usual t i.Int) (pos 1) (one_fits (usual t i.Int))))
counted_fits c (Pointer e f) back x s h v = move_fits c e f i.Int x (constant i.Int (pos 1)) back s v (constant_fits c i.Int (pos 1) refl)
counted_fits c (Struct n) back x s h v = false_not_true h
counted_fits c (Array e n) back x s h v = false_not_true h

-- ---- operators before an operand

unary_one : (c : Context) (op : UnOp) (t : IntType) (x : ExprTree) (s : Span) → unary_fits op (Some (Int t)) (Some (Int (unary_type op t))) ≡ true → ValueFits c (Int t) x → ValueFits c (Int (unary_type op t)) (unary op t x s)
unary_one c op t x s h v = record {
  fits = both_hold (expr_fits c x) (takes_one op t (type_of c x)) v.fits (subst (λ a. takes_one op t a ≡ true) (sym (stands_int (type_of c x) t v.type)) (both_hold (same_int t t) (unary_fits op (Some (Int t)) (Some (Int (unary_type op t)))) (int_self t) h));
  type = int_self (unary_type op t);
}

pub record Promoted (a b : Option VarTy) : Type 0 where
  pub type : IntType
  pub from : a ≡ Some (Int type)
  pub to : b ≡ Some (Int type)
  pub promoted : is_promoted type ≡ true

pub both_promoted : (a b : Option VarTy) → is_same_promoted a b ≡ true → Promoted a b
both_promoted (Some (Int a)) (Some (Int b)) h = record { type = b; from = ap (λ z. Some (Int z)) (equal_ints a b (both_hold_first (same_int a b) (is_promoted b) h)); to = refl; promoted = both_hold_second (same_int a b) (is_promoted b) h }
both_promoted None b h = false_not_true h
both_promoted (Some (Struct n)) b h = false_not_true h
both_promoted (Some (Array e n)) b h = false_not_true h
both_promoted (Some (Pointer e f)) b h = false_not_true h
both_promoted (Some (Int a)) None h = false_not_true h
both_promoted (Some (Int a)) (Some (Struct n)) h = false_not_true h
both_promoted (Some (Int a)) (Some (Array e n)) h = false_not_true h
both_promoted (Some (Int a)) (Some (Pointer e f)) h = false_not_true h

promoted_self : (t : IntType) → is_promoted t ≡ true → (same_int t t && is_promoted t) ≡ true
promoted_self t h = both_hold (same_int t t) (is_promoted t) (int_self t) h

signed_fits : (c : Context) (op : UnOp) (a ty : VarTy) (t : IntType) (x : ExprTree) (s : Span) → a ≡ Int t → ty ≡ Int t → unary_type op t ≡ t → unary_fits op (Some (Int t)) (Some (Int (unary_type op t))) ≡ true → ValueFits c a x → ValueFits c ty (prefixed op a x s)
signed_fits c op a ty t x s p q u h v =
    subst (λ m. ValueFits c ty (prefixed op m x s)) (sym p) (subst (λ m. ValueFits c m (unary op t x s)) (ap Int u ∙ sym q) (unary_one c op t x s h (subst (λ m. ValueFits c m x) p v)))

not_fits : (c : Context) (a : VarTy) (x : ExprTree) (s : Span) → is_scalar (Some a) ≡ true → is_variable_type (length c.structs) a ≡ true → ValueFits c a x → ValueFits c (Int i.Int) (prefixed Not a x s)
not_fits c (Int t) x s h k v = unary_one c Not t x s refl v
not_fits c (Pointer e f) x s h k v = compare_fits c Eq e f false x (null e) s refl v (null_fits c e false k)
not_fits c (Struct n) x s h k v = false_not_true h
not_fits c (Array e n) x s h k v = false_not_true h

pub prefixed_fits : (c : Context) (op : UnOp) (a ty : VarTy) (x : ExprTree) (s : Span) → unary_fits op (Some a) (Some ty) ≡ true → is_variable_type (length c.structs) a ≡ true → ValueFits c a x → ValueFits c ty (prefixed op a x s)
prefixed_fits c Minus a ty x s h k v = let p = both_promoted (Some a) (Some ty) h in signed_fits c Minus a ty p.type x s (one_type a (Int p.type) p.from) (one_type ty (Int p.type) p.to) refl (promoted_self p.type p.promoted) v
prefixed_fits c Plus a ty x s h k v = let p = both_promoted (Some a) (Some ty) h in signed_fits c Plus a ty p.type x s (one_type a (Int p.type) p.from) (one_type ty (Int p.type) p.to) refl (promoted_self p.type p.promoted) v
prefixed_fits c Flip a ty x s h k v = let p = both_promoted (Some a) (Some ty) h in signed_fits c Flip a ty p.type x s (one_type a (Int p.type) p.from) (one_type ty (Int p.type) p.to) refl (promoted_self p.type p.promoted) v
prefixed_fits c Not a ty x s h k v =
    subst (λ m. ValueFits c m (prefixed Not a x s)) (sym (equal_types ty (Int i.Int) (both_hold_second (is_scalar (Some a)) (same_types (Some ty) r.int) h))) (not_fits c a x s (both_hold_first (is_scalar (Some a)) (same_types (Some ty) r.int) h) k v)

-- the operand of an operator before it, and what that gives, are integers or pointers
pub unary_operand : (op : UnOp) (a t : Option VarTy) → unary_fits op a t ≡ true → (is_scalar a ≡ true) × (is_scalar t ≡ true)
unary_operand Minus a t h = let p = both_promoted a t h in (subst (λ z. is_scalar z ≡ true) (sym p.from) refl, subst (λ z. is_scalar z ≡ true) (sym p.to) refl)
unary_operand Plus a t h = let p = both_promoted a t h in (subst (λ z. is_scalar z ≡ true) (sym p.from) refl, subst (λ z. is_scalar z ≡ true) (sym p.to) refl)
unary_operand Flip a t h = let p = both_promoted a t h in (subst (λ z. is_scalar z ≡ true) (sym p.from) refl, subst (λ z. is_scalar z ≡ true) (sym p.to) refl)
unary_operand Not a None h = false_not_true (both_hold_second (is_scalar a) false h)
unary_operand Not a (Some ty) h = (both_hold_first (is_scalar a) (same_types (Some ty) r.int) h, subst (λ z. is_scalar (Some z) ≡ true) (sym (equal_types ty (Int i.Int) (both_hold_second (is_scalar a) (same_types (Some ty) r.int) h))) refl)

-- what an operator before its operand gives is an integer
pub unary_known : (n : ℕ) (op : UnOp) (a t : Option VarTy) → unary_fits op a t ≡ true → (ty : VarTy) → t ≡ Some ty → (is_scalar (Some ty) && is_variable_type n ty) ≡ true
unary_known n Minus a t h ty e = let p = both_promoted a t h in subst (λ m. (is_scalar (Some m) && is_variable_type n m) ≡ true) (one_type (Int p.type) ty (sym p.to ∙ e)) refl
unary_known n Plus a t h ty e = let p = both_promoted a t h in subst (λ m. (is_scalar (Some m) && is_variable_type n m) ≡ true) (one_type (Int p.type) ty (sym p.to ∙ e)) refl
unary_known n Flip a t h ty e = let p = both_promoted a t h in subst (λ m. (is_scalar (Some m) && is_variable_type n m) ≡ true) (one_type (Int p.type) ty (sym p.to ∙ e)) refl
unary_known n Not a None h ty e = false_not_true (both_hold_second (is_scalar a) false h)
unary_known n Not a (Some t) h ty e = subst (λ m. (is_scalar (Some m) && is_variable_type n m) ≡ true) (sym (equal_types t (Int i.Int) (both_hold_second (is_scalar a) (same_types (Some t) r.int) h)) ∙ one_type t ty e) refl

-- ---- truth and conversions

pub truth_fits : (c : Context) (a : VarTy) (x : ExprTree) (s : Span) → is_scalar (Some a) ≡ true → is_variable_type (length c.structs) a ≡ true → ValueFits c a x → ValueFits c (Int i.Int) (truth_of a x s)
truth_fits c (Int t) x s h k v = unary_one c Not i.Int (unary Not t x s) s refl (unary_one c Not t x s refl v)
truth_fits c (Pointer e f) x s h k v = compare_fits c Ne e f false x (null e) s refl v (null_fits c e false k)
truth_fits c (Struct n) x s h k v = false_not_true h
truth_fits c (Array e n) x s h k v = false_not_true h

pub converted_fits : (c : Context) (a ty : VarTy) (x : ExprTree) → converts (Some a) (Some ty) ≡ true → ValueFits c a x → ValueFits c ty (converted ty x)
converted_fits c (Int a) (Int t) x h v = convert_fits c a t x v
converted_fits c (Pointer d f) (Pointer e g) x h v =
    let p = stands_pointer (type_of c x) d f v.type in
    let same = equal_elems d e (both_hold_first (same_elem d e) (not f || g) h) in
    record { fits = v.fits; type = subst (λ m. stands_for m (Pointer e g) ≡ true) (sym (p.is ∙ ap (λ m. Pointer m p.own) same)) (points e p.own g (keeps_both p.own f g p.keeps (both_hold_second (same_elem d e) (not f || g) h))) }
converted_fits c (Int a) (Struct n) x h v = false_not_true h
converted_fits c (Int a) (Array e n) x h v = false_not_true h
converted_fits c (Int a) (Pointer e g) x h v = false_not_true h
converted_fits c (Pointer d f) (Int t) x h v = false_not_true h
converted_fits c (Pointer d f) (Struct n) x h v = false_not_true h
converted_fits c (Pointer d f) (Array e n) x h v = false_not_true h
converted_fits c (Struct m) ty x h v = false_not_true h
converted_fits c (Array d m) ty x h v = false_not_true h

-- what is converted is an integer or a pointer, and so is what it is converted to
pub convert_known : (n : ℕ) (a t : Option VarTy) → converts a t ≡ true → (is_scalar a ≡ true) × (is_scalar t ≡ true)
convert_known n (Some (Int a)) (Some (Int b)) h = (refl, refl)
convert_known n (Some (Pointer d f)) (Some (Pointer e g)) h = (refl, refl)
convert_known n None t h = false_not_true h
convert_known n (Some (Struct m)) t h = false_not_true h
convert_known n (Some (Array d m)) t h = false_not_true h
convert_known n (Some (Int a)) None h = false_not_true h
convert_known n (Some (Int a)) (Some (Struct m)) h = false_not_true h
convert_known n (Some (Int a)) (Some (Array e m)) h = false_not_true h
convert_known n (Some (Int a)) (Some (Pointer e g)) h = false_not_true h
convert_known n (Some (Pointer d f)) None h = false_not_true h
convert_known n (Some (Pointer d f)) (Some (Int b)) h = false_not_true h
convert_known n (Some (Pointer d f)) (Some (Struct m)) h = false_not_true h
convert_known n (Some (Pointer d f)) (Some (Array e m)) h = false_not_true h

pub conversion_known : (n : ℕ) (a ty : VarTy) → converts (Some a) (Some ty) ≡ true → is_variable_type n a ≡ true → is_variable_type n ty ≡ true
conversion_known n (Int a) (Int t) h k = refl
conversion_known n (Pointer d f) (Pointer e g) h k = subst (λ m. is_elem n (Some m) ≡ true) (equal_elems d e (both_hold_first (same_elem d e) (not f || g) h)) k
conversion_known n (Int a) (Struct m) h k = false_not_true h
conversion_known n (Int a) (Array e m) h k = false_not_true h
conversion_known n (Int a) (Pointer e g) h k = false_not_true h
conversion_known n (Pointer d f) (Int t) h k = false_not_true h
conversion_known n (Pointer d f) (Struct m) h k = false_not_true h
conversion_known n (Pointer d f) (Array e m) h k = false_not_true h
conversion_known n (Struct m) ty h k = false_not_true h
conversion_known n (Array d m) ty h k = false_not_true h
