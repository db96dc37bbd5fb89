-- What the type rules say of the operands of an operator.
use Rattle.std.proofs.Common.{◌≡◌, ◌∙◌, refl, ap, sym, subst, Bool, true, false, not, Option, Some, None}
use Rattle.std.specs.Prelude.{IsTrue, ◌&&◌, ◌||◌, is_some}
use Rattle.pt_base.specs.declared.int_type.IntType.{IntType}
use Rattle.pt_base.specs.declared.int_type.IntType.TheVariants as i
use Rattle.pt_base.specs.IntTypes.{promoted, usual}
use Rattle.pt_base.specs.declared.span.Span.{Span}
use Rattle.pt_base.proofs.Booleans.{both_hold_first, both_hold_second, false_not_true, from_not_true}
use Rattle.pt_int.specs.declared.operator.BinOp.{BinOp}
use Rattle.pt_int.specs.declared.operator.BinOp.TheVariants.{Mul, Div, Rem, Add, Sub, Shl, Shr, Lt, Gt, Le, Ge, Eq, Ne, And, Xor, Or}
use Rattle.pt_int.specs.declared.operator.UnOp.{UnOp}
use Rattle.pt_int.specs.declared.operator.UnOp.TheVariants.{Minus, Plus, Flip, Not}
use Rattle.pt_int.specs.Operator.{is_shift, binary_type}
use Rattle.pt_tree.specs.declared.signature.Elem.{Elem}
use Rattle.typed_tree.specs.declared.types.VarTy.{VarTy}
use Rattle.typed_tree.specs.declared.types.VarTy.TheVariants.{Int, Struct, Array, Pointer}
use Rattle.typed_tree.specs.declared.link.LinkStep.{LinkStep}
use Rattle.typed_tree.specs.declared.link.LinkStep.TheVariants.{Arithmetic, Shift, Move, MoveBy, Difference, Compare}
use Rattle.typed_tree.specs.ExpressionTree.{ExprTree, typed}
use Rattle.typed_tree.specs.TypeTests.{same_int, same_types, same_elem, both_elem, integer_of, pointee_of, is_scalar, is_value}
use Rattle.typed_tree.specs.TypeRules as r
use Rattle.typed_tree.specs.TypeRules.{is_comparison, is_compound, unary_fits, converts, promoted_value, arithmetic_type, shift_type, moved_type}
use Rattle.typed_tree.specs.WellFormedExpression.{ty_of, is_struct}
use Rattle.source_meaning.specs.Memory.{Cell}
use Rattle.source_meaning.specs.Expressions as e
use Rattle.typed_tree.proofs.SameTypes.{equal_options, equal_elems}
use Rattle.source_soundness.proofs.Operators.{same_promoted_is}
use Rattle.source_soundness.proofs.Steps.{IsInt, arithmetic_int, shift_int, when, moved_is, holds_when}
use Rattle.source_soundness.proofs.Soundness.{converts_scalar}
use Rattle.pt_core.specs.CodeTree as ct
use Rattle.pt_core.specs.Types.{type_of}
use Rattle.lowering.specs.Operators as l
use Rattle.c_lower_law.proofs.Relations.{Scene, frame_of}
use Rattle.c_lower_law.proofs.Operators.{PointerType, Prefixes, IsScalarCell, Computes, TakesLeft, PlainStep, PointsTo}
use Rattle.c_lower_law.proofs.Values.{Scalar}

-- ---- scalars

pub record ScalarType (ty : Option VarTy) : Type 0 where
  pub u : VarTy
  pub is : ty ≡ Some u
  pub scalar : Scalar u

pub scalar_value_type : (ty : Option VarTy) → is_value ty ≡ true → is_struct ty ≡ false → ScalarType ty
scalar_value_type (Some (Int u)) h k = record { u = Int u; is = refl; scalar = tt }
scalar_value_type (Some (Pointer elem fixed)) h k = record { u = Pointer elem fixed; is = refl; scalar = tt }
scalar_value_type None h k = false_not_true h
scalar_value_type (Some (Struct n)) h k = false_not_true (sym k)
scalar_value_type (Some (Array elem count)) h k = false_not_true h

pub scalar_type : (ty : Option VarTy) → is_scalar ty ≡ true → ScalarType ty
scalar_type (Some (Int u)) h = record { u = Int u; is = refl; scalar = tt }
scalar_type (Some (Pointer elem fixed)) h = record { u = Pointer elem fixed; is = refl; scalar = tt }
scalar_type None h = false_not_true h
scalar_type (Some (Struct n)) h = false_not_true h
scalar_type (Some (Array elem count)) h = false_not_true h

pub not_struct : (ty : Option VarTy) → ScalarType ty → is_struct ty ≡ false
not_struct ty k = ap is_struct k.is ∙ of_scalar k.u k.scalar
  where
    of_scalar : (u : VarTy) → Scalar u → is_struct (Some u) ≡ false
    of_scalar (Int u) h = refl
    of_scalar (Pointer elem fixed) h = refl
    of_scalar (Struct n) h = absurd h
    of_scalar (Array elem count) h = absurd h

pub type_is : (ex : ExprTree) (u : VarTy) → ty_of ex ≡ Some u → e.type_of ex ≡ u
type_is (typed s ty form) u h = ap e.type_or_int h

-- ---- operators before their operand

pub record UnaryType (op : UnOp) (a : Option VarTy) : Type 0 where
  pub u : VarTy
  pub is : a ≡ Some u
  pub scalar : Scalar u
  pub prefixes : Prefixes op u

promoted_operand : (op : UnOp) (a t : Option VarTy) → r.is_same_promoted a t ≡ true → ((u : IntType) → Prefixes op (Int u)) → UnaryType op a
promoted_operand op a t h p = let k = same_promoted_is a t h in record { u = Int k.0; is = k.2; scalar = tt; prefixes = p k.0 }

not_operand : (a : Option VarTy) → is_scalar a ≡ true → UnaryType Not a
not_operand (Some (Int u)) h = record { u = Int u; is = refl; scalar = tt; prefixes = tt }
not_operand (Some (Pointer elem fixed)) h = record { u = Pointer elem fixed; is = refl; scalar = tt; prefixes = tt }
not_operand None h = false_not_true h
not_operand (Some (Struct n)) h = false_not_true h
not_operand (Some (Array elem count)) h = false_not_true h

pub unary_type : (op : UnOp) (a t : Option VarTy) → unary_fits op a t ≡ true → UnaryType op a
unary_type Minus a t h = promoted_operand Minus a t h (λ u. tt)
unary_type Plus a t h = promoted_operand Plus a t h (λ u. tt)
unary_type Flip a t h = promoted_operand Flip a t h (λ u. tt)
unary_type Not a t h = not_operand a (both_hold_first (is_scalar a) (same_types t r.int) h)

no_pointer_int : (u : IntType) (t : Option VarTy) (elem : Elem) (fixed : Bool) → t ≡ Some (Int u) → t ≡ Some (Pointer elem fixed) → ⊥
no_pointer_int u t elem fixed p q = clash (sym p ∙ q)
  where
    clash : Some (Int u) ≡ Some (Pointer elem fixed) → ⊥
    clash h = cc

pub unary_number : (op : UnOp) (a t : Option VarTy) (elem : Elem) (fixed : Bool) → unary_fits op a t ≡ true → t ≡ Some (Pointer elem fixed) → ⊥
unary_number Minus a t elem fixed h k = let p = same_promoted_is a t h in no_pointer_int p.1 t elem fixed p.3 k
unary_number Plus a t elem fixed h k = let p = same_promoted_is a t h in no_pointer_int p.1 t elem fixed p.3 k
unary_number Flip a t elem fixed h k = let p = same_promoted_is a t h in no_pointer_int p.1 t elem fixed p.3 k
unary_number Not a t elem fixed h k = no_pointer_int i.Int t elem fixed (equal_options t r.int (both_hold_second (is_scalar a) (same_types t r.int) h)) k

-- ---- conversions

pub record ConvertType (a t : Option VarTy) : Type 0 where
  pub u : VarTy
  pub to : VarTy
  pub is : a ≡ Some u
  pub gives_is : t ≡ Some to
  pub scalar : Scalar u
  pub cells : (x : Cell) → IsScalarCell u x → IsScalarCell to x

pub convert_type : (a t : Option VarTy) → converts a t ≡ true → ConvertType a t
convert_type (Some (Int a)) (Some (Int z)) h = record { u = Int a; to = Int z; is = refl; gives_is = refl; scalar = tt; cells = λ x k. k }
convert_type (Some (Pointer a f)) (Some (Pointer z g)) h = record { u = Pointer a f; to = Pointer z g; is = refl; gives_is = refl; scalar = tt; cells = λ x k. k }
convert_type None t h = false_not_true h
convert_type (Some (Struct n)) t h = false_not_true h
convert_type (Some (Array elem n)) t h = false_not_true h
convert_type (Some (Int a)) None h = false_not_true h
convert_type (Some (Int a)) (Some (Struct n)) h = false_not_true h
convert_type (Some (Int a)) (Some (Array elem n)) h = false_not_true h
convert_type (Some (Int a)) (Some (Pointer elem g)) h = false_not_true h
convert_type (Some (Pointer a f)) None h = false_not_true h
convert_type (Some (Pointer a f)) (Some (Int z)) h = false_not_true h
convert_type (Some (Pointer a f)) (Some (Struct n)) h = false_not_true h
convert_type (Some (Pointer a f)) (Some (Array elem n)) h = false_not_true h

pub convert_pointer : (s : Scene) (a t : Option VarTy) (value : ct.ExprTree) → converts a t ≡ true → PointerType s a value → PointerType s t (l.converted (e.type_or_int t) value)
convert_pointer s (Some (Pointer a f)) (Some (Pointer z g)) value h k elem fixed is = k elem f (ap (λ q. Some (Pointer q f)) (equal_elems a z (both_hold_first (same_elem a z) (not f || g) h) ∙ same_pointee z elem g fixed is))
  where
    same_pointee : (x y : Elem) (p q : Bool) → Some (Pointer x p) ≡ Some (Pointer y q) → x ≡ y
    same_pointee x y p q h = cc
convert_pointer s (Some (Int a)) (Some (Int z)) value h k elem fixed is = cc
convert_pointer s None t value h k elem fixed is = false_not_true h
convert_pointer s (Some (Struct n)) t value h k elem fixed is = false_not_true h
convert_pointer s (Some (Array el n)) t value h k elem fixed is = false_not_true h
convert_pointer s (Some (Int a)) None value h k elem fixed is = false_not_true h
convert_pointer s (Some (Int a)) (Some (Struct n)) value h k elem fixed is = false_not_true h
convert_pointer s (Some (Int a)) (Some (Array el n)) value h k elem fixed is = false_not_true h
convert_pointer s (Some (Int a)) (Some (Pointer el g)) value h k elem fixed is = false_not_true h
convert_pointer s (Some (Pointer a f)) None value h k elem fixed is = false_not_true h
convert_pointer s (Some (Pointer a f)) (Some (Int z)) value h k elem fixed is = false_not_true h
convert_pointer s (Some (Pointer a f)) (Some (Struct n)) value h k elem fixed is = false_not_true h
convert_pointer s (Some (Pointer a f)) (Some (Array el n)) value h k elem fixed is = false_not_true h

-- ---- steps of chains

plain_type : (op : BinOp) (to : IntType) → not (is_comparison op) ≡ true → binary_type op to ≡ to
plain_type Mul to h = refl
plain_type Div to h = refl
plain_type Rem to h = refl
plain_type Add to h = refl
plain_type Sub to h = refl
plain_type Shl to h = refl
plain_type Shr to h = refl
plain_type And to h = refl
plain_type Xor to h = refl
plain_type Or to h = refl
plain_type Lt to h = false_not_true h
plain_type Gt to h = false_not_true h
plain_type Le to h = false_not_true h
plain_type Ge to h = false_not_true h
plain_type Eq to h = false_not_true h
plain_type Ne to h = false_not_true h

number_type : {to : VarTy} → IsInt to → (elem : Elem) (fixed : Bool) → Some to ≡ Some (Pointer elem fixed) → ⊥
number_type {to} k elem fixed is = no_pointer_int k.0 (Some to) elem fixed (ap (λ q. Some q) (sym k.1)) is

same_pointee : (x y : Elem) (p q : Bool) → Some (Pointer x p) ≡ Some (Pointer y q) → x ≡ y
same_pointee x y p q h = cc

-- the operands of an operator are integers, and it is no shift
arithmetic_facts : (op : BinOp) (to : IntType) (a z : Option IntType) (ty : VarTy) → arithmetic_type op to a z ≡ Some ty → (is_shift op ≡ false) × (is_some z ≡ true)
arithmetic_facts op to None z ty h = cc
arithmetic_facts op to (Some a) None ty h = cc
arithmetic_facts op to (Some a) (Some z) ty h =
    (from_not_true (is_shift op) (both_hold_first (not (is_shift op)) (same_int (usual a to) to && same_int z to) (holds_when (not (is_shift op) && (same_int (usual a to) to && same_int z to)) (Some (Int (binary_type op to))) ty h)), refl)

shift_facts : (a z : Option IntType) (ty : VarTy) → shift_type a z ≡ Some ty → is_some z ≡ true
shift_facts None z ty h = cc
shift_facts (Some a) None ty h = cc
shift_facts (Some a) (Some z) ty h = refl

int_scalar : (z : Option VarTy) → is_some (integer_of z) ≡ true → ScalarType z
int_scalar (Some (Int u)) h = record { u = Int u; is = refl; scalar = tt }
int_scalar None h = false_not_true h
int_scalar (Some (Struct n)) h = false_not_true h
int_scalar (Some (Array elem n)) h = false_not_true h
int_scalar (Some (Pointer elem f)) h = false_not_true h

pointer_scalar : (z : Option VarTy) → is_some (pointee_of z) ≡ true → ScalarType z
pointer_scalar (Some (Pointer elem f)) h = record { u = Pointer elem f; is = refl; scalar = tt }
pointer_scalar None h = false_not_true h
pointer_scalar (Some (Int u)) h = false_not_true h
pointer_scalar (Some (Struct n)) h = false_not_true h
pointer_scalar (Some (Array elem n)) h = false_not_true h

both_some : (a z : Option Elem) → both_elem a z ≡ true → (is_some a ≡ true) × (is_some z ≡ true)
both_some (Some a) (Some z) h = (refl, refl)
both_some None z h = false_not_true h
both_some (Some a) None h = false_not_true h

-- the operand of a step is a scalar
pub link_operand : (a z : Option VarTy) (step : LinkStep) (to : VarTy) → r.stepped a step z ≡ Some to → ScalarType z
link_operand a z (Arithmetic op t) to h = int_scalar z (arithmetic_facts op t (integer_of a) (integer_of z) to h).1
link_operand a z (Shift back) to h = int_scalar z (shift_facts (integer_of a) (integer_of z) to h)
link_operand a z (Move back) to h = int_scalar z (both_hold_second (is_some (pointee_of a)) (is_some (integer_of z)) (holds_when (is_some (pointee_of a) && is_some (integer_of z)) a to h))
link_operand a z MoveBy to h = pointer_scalar z (both_hold_first (is_some (pointee_of z)) (is_some (integer_of a)) (holds_when (is_some (pointee_of z) && is_some (integer_of a)) z to h))
link_operand a z Difference to h = pointer_scalar z (both_some (pointee_of a) (pointee_of z) (holds_when (both_elem (pointee_of a) (pointee_of z)) (Some (Int i.Long)) to h)).1
link_operand a z (Compare op) to h =
    pointer_scalar z (both_some (pointee_of a) (pointee_of z) (both_hold_second (is_comparison op) (both_elem (pointee_of a) (pointee_of z)) (holds_when (is_comparison op && both_elem (pointee_of a) (pointee_of z)) r.int to h))).1

pub link_plain : (a z : Option VarTy) (step : LinkStep) (to : VarTy) → r.stepped a step z ≡ Some to → PlainStep step
link_plain a z (Arithmetic op t) to h = (arithmetic_facts op t (integer_of a) (integer_of z) to h).0
link_plain a z (Shift back) to h = tt
link_plain a z (Move back) to h = tt
link_plain a z MoveBy to h = tt
link_plain a z Difference to h = tt
link_plain a z (Compare op) to h = tt

compares : (s : Scene) (u : VarTy) (value : ct.ExprTree) → is_some (pointee_of (Some u)) ≡ true → PointerType s (Some u) value → (elem : Elem) × (f : Bool) × (g : Bool) × (u ≡ Pointer elem f) × (type_of (frame_of s).context value ≡ Pointer elem g)
compares s (Pointer elem f) value h k = let p = k elem f refl in (elem, f, p.0, refl, p.1)
compares s (Int u) value h k = false_not_true h
compares s (Struct n) value h k = false_not_true h
compares s (Array elem n) value h k = false_not_true h

pub link_points : (s : Scene) (u : VarTy) (z : Option VarTy) (step : LinkStep) (to : VarTy) (value : ct.ExprTree) → r.stepped (Some u) step z ≡ Some to → PointerType s (Some u) value → PointsTo s u step value
link_points s u z (Arithmetic op t) to value h k = tt
link_points s u z (Shift back) to value h k = tt
link_points s u z (Move back) to value h k = tt
link_points s u z MoveBy to value h k = tt
link_points s u z Difference to value h k = tt
link_points s u z (Compare op) to value h k =
    compares s u value (both_some (pointee_of (Some u)) (pointee_of z) (both_hold_second (is_comparison op) (both_elem (pointee_of (Some u)) (pointee_of z)) (holds_when (is_comparison op && both_elem (pointee_of (Some u)) (pointee_of z)) r.int to h))).0 k

-- which pointer a step gives
pub link_pointer : (s : Scene) (u : VarTy) (z : Option VarTy) (step : LinkStep) (to : VarTy) (a e1 : ct.ExprTree) (at : Span) → r.stepped (Some u) step z ≡ Some to → PointerType s (Some u) a → PointerType s z e1 → PointerType s (Some to) (l.stepped u step a e1 at)
link_pointer s u z (Arithmetic op t) to a e1 at h k k1 elem fixed is = absurd (number_type (arithmetic_int op t (integer_of (Some u)) (integer_of z) to h) elem fixed is)
link_pointer s u z (Shift back) to a e1 at h k k1 elem fixed is = absurd (number_type (shift_int (integer_of (Some u)) (integer_of z) to h) elem fixed is)
link_pointer s u z (Move back) to a e1 at h k k1 elem fixed is = let m = moved_is (Some u) z to h in k elem m.fixed (m.is ∙ ap (λ q. Some (Pointer q m.fixed)) (same_pointee m.elem elem m.fixed fixed (ap (λ q. Some q) m.gives ∙ is)))
link_pointer s u z MoveBy to a e1 at h k k1 elem fixed is = let m = moved_is z (Some u) to h in k1 elem m.fixed (m.is ∙ ap (λ q. Some (Pointer q m.fixed)) (same_pointee m.elem elem m.fixed fixed (ap (λ q. Some q) m.gives ∙ is)))
link_pointer s u z Difference to a e1 at h k k1 elem fixed is = absurd (number_type (i.Long, when (both_elem (pointee_of (Some u)) (pointee_of z)) (Int i.Long) to h) elem fixed is)
link_pointer s u z (Compare op) to a e1 at h k k1 elem fixed is = absurd (number_type (i.Int, when (is_comparison op && both_elem (pointee_of (Some u)) (pointee_of z)) (Int i.Int) to h) elem fixed is)

-- ---- compound assignments

pub record ComputeType (u : VarTy) (step : LinkStep) (z : Option VarTy) : Type 0 where
  pub computes : Computes u step
  pub operand : ScalarType z

some_result : (o : Option VarTy) (t : Option VarTy) → converts o t ≡ true → (ty : VarTy) × (o ≡ Some ty)
some_result (Some ty) t h = (ty, refl)
some_result None t h = false_not_true h

compute_int : (u : IntType) (step : LinkStep) (z : Option VarTy) (to : VarTy) → is_compound step ≡ true → r.stepped (Some (Int (promoted u))) step z ≡ Some to → ComputeType (Int u) step z
compute_int u (Arithmetic op t) z to h is = record { computes = (plain_type op t h, (arithmetic_facts op t (Some (promoted u)) (integer_of z) to is).0); operand = link_operand (Some (Int (promoted u))) z (Arithmetic op t) to is }
compute_int u (Shift back) z to h is = record { computes = tt; operand = link_operand (Some (Int (promoted u))) z (Shift back) to is }
compute_int u (Move back) z to h is = cc
compute_int u MoveBy z to h is = false_not_true h
compute_int u Difference z to h is = false_not_true h
compute_int u (Compare op) z to h is = false_not_true h

compute_pointer : (elem : Elem) (f : Bool) (step : LinkStep) (z : Option VarTy) (to : VarTy) → is_compound step ≡ true → r.stepped (Some (Pointer elem f)) step z ≡ Some to → ComputeType (Pointer elem f) step z
compute_pointer elem f (Move back) z to h is = record { computes = tt; operand = link_operand (Some (Pointer elem f)) z (Move back) to is }
compute_pointer elem f (Arithmetic op t) z to h is = cc
compute_pointer elem f (Shift back) z to h is = cc
compute_pointer elem f MoveBy z to h is = false_not_true h
compute_pointer elem f Difference z to h is = false_not_true h
compute_pointer elem f (Compare op) z to h is = false_not_true h

pub compute_type : (u : VarTy) (step : LinkStep) (z : Option VarTy) → is_compound step ≡ true → converts (r.stepped (promoted_value (Some u)) step z) (Some u) ≡ true → ComputeType u step z
compute_type (Int u) step z h k = let o = some_result (r.stepped (Some (Int (promoted u))) step z) (Some (Int u)) k in compute_int u step z o.0 h o.1
compute_type (Pointer elem f) step z h k = let o = some_result (r.stepped (Some (Pointer elem f)) step z) (Some (Pointer elem f)) k in compute_pointer elem f step z o.0 h o.1
compute_type (Struct n) step z h k = false_not_true (converts_scalar (r.stepped (promoted_value (Some (Struct n))) step z) (Struct n) k)
compute_type (Array elem n) step z h k = false_not_true (converts_scalar (r.stepped (promoted_value (Some (Array elem n))) step z) (Array elem n) k)

pub unit_computes : (u : VarTy) (back : Bool) → Scalar u → Computes u (l.unit_step u back)
unit_computes (Int u) true h = (refl, refl)
unit_computes (Int u) false h = (refl, refl)
unit_computes (Pointer elem f) back h = tt
unit_computes (Struct n) back h = absurd h
unit_computes (Array elem n) back h = absurd h
