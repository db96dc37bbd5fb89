-- Assignments without a fault are sound values.
use Rattle.std.proofs.Common.{◌≡◌, ◌∙◌, ◌≤◌, ℕ, refl, ap, sym, subst, [], Bool, true, false, Option, Some, None, length, if◌then◌else◌, is_some}
use Rattle.std.specs.Prelude.{IsTrue, ◌&&◌, ◌||◌, not}
use Rattle.std.proofs.lemmas.Bool.{or_from}
use Rattle.pt_base.specs.declared.span.Span.{Span}
use Rattle.pt_base.specs.IntTypes.{promoted}
use Rattle.pt_base.proofs.Booleans.{both_hold, not_or_self, or_false_first, true_and_false}
use Rattle.pt_tree.specs.declared.operator.BinaryOp.{BinaryOp}
use Rattle.pt_tree.specs.declared.operator.BinaryOp.TheVariants.{LogicalOr, LogicalAnd, BitOr, BitXor, BitAnd, Equal, NotEqual, Less, Greater, LessEqual, GreaterEqual, ShiftLeft, ShiftRight, Add, Subtract, Multiply, Divide, Remainder}
use Rattle.type_rules.specs.declared.types.Type.{«Type»}
use Rattle.type_rules.specs.declared.types.Type.TheVariants.{Bad, Void, Int, Struct, Array, Pointer}
use Rattle.type_rules.specs.declared.types.Value.{Value}
use Rattle.type_rules.specs.declared.operators.Rule.{Rule}
use Rattle.type_rules.specs.declared.operators.Rule.TheVariants as rule
use Rattle.type_rules.specs.Conversions.{fit_rule, is_wrong, compound_rule}
use Rattle.type_rules.specs.Operators.{binary_rule, rule_type, at_right}
use Rattle.type_rules.specs.Types.{is_bad, value_type}
use Rattle.typed_tree.specs.declared.types.VarTy.TheVariants as v
use Rattle.typed_tree.specs.ExpressionTree.{ExprTree}
use Rattle.typed_tree.specs.TypeTests as test
use Rattle.typed_tree.specs.TypeRules.{stepped, promoted_value, converts, is_compound, is_comparison}
use Rattle.typed_tree.specs.WellFormedExpression.{Names, is_typed, ty_of, place_fits, place_type, place_const, is_object, is_written, assigned_type}
use Rattle.check_declarations.specs.declared.fault.FaultKind.{FaultKind}
use Rattle.check_declarations.specs.Objects.{is_struct}
use Rattle.check_declarations.specs.Structs.{Structs, has_const}
use Rattle.check_expressions.specs.Assignments.{misfits, stored_tree, stored_by, stored, is_compounding, operator_rule, step_rule_of, is_refused, compound_tree, compounded_by, compounded, assigned}
use Rattle.check_expressions.specs.Conversions.{as_type}
use Rattle.check_expressions.specs.Links.{integer_op, step_of, converted_by, rule_faults, logical_of, link_type}
use Rattle.check_expressions.specs.Operands.{Known, var_type, place_of, value_of, value_tree, plain}
use Rattle.check_expressions.specs.Targets.{optional_fault, object_fault, target_fault_of, target_fault}
use Rattle.type_law.specs.DeclarationsTypes.{is_good, is_variable}
use Rattle.type_law.specs.ExpressionsLaws.{SoundValue, Fitted}
use Rattle.type_law.proofs.ExpressionsLists.{nowhere_where}
use Rattle.type_law.proofs.ExpressionsSameTypes.{same_types-equal, usual-promoted-left}
use Rattle.type_law.proofs.ExpressionsFits.{values_fit}
use Rattle.type_law.proofs.ExpressionsKnown.{SoundKnown, plain_sound, value_sound, place_sound, designated_variable, good-variable}
use Rattle.type_law.proofs.ExpressionsLinks.{no_struct}
use Rattle.type_law.proofs.ExpressionsOutcomes.{good_known, val, Outcome, numbers, truths, shifts, moves, moves_by, differs, compares, null_right, null_left, binary_outcome}
use Rattle.type_law.proofs.ExpressionsTakes.{numbers_take, shifts_take, moves_take}
use Rattle.typed_tree.proofs.SameTypes.{elem_self}

-- ---- what may be written

-- no array, and an object that isn't const
pub record Written (ty : «Type») (designates is_const : Bool) : Type 0 where
  pub object : designates ≡ true
  pub free : is_const ≡ false
  pub whole : value_type ty false ≡ ty

object_written : (ty : «Type») (d c : Bool) → value_type ty false ≡ ty → object_fault d c ≡ None → Written ty d c
unfolding object_fault
object_written ty true true w h = cc
object_written ty true false w h = record { object = refl; free = refl; whole = w }
object_written ty false c w h = cc

pub target_written : (ty : «Type») (d c : Bool) → is_bad ty ≡ false → target_fault_of ty d c ≡ None → Written ty d c
unfolding target_fault_of
target_written Bad d c b h = cc
target_written Void d c b h = object_written _ d c refl h
target_written (Int t) d c b h = object_written _ d c refl h
target_written (Struct m) d c b h = object_written _ d c refl h
target_written (Array e k) d c b h = cc
target_written (Pointer e f) d c b h = object_written _ d c refl h

-- the place of what is written
pub record Target (n : Names) (structs : ℕ) (k : Known) : Type 0 where
  pub fits : IsTrue (place_fits n (place_of k.tree))
  pub has : place_type n (place_of k.tree) ≡ var_type k.ty
  pub written : IsTrue (is_written n (place_of k.tree))
  pub variable : IsTrue (is_variable structs k.ty)
  pub whole : value_type k.ty false ≡ k.ty

-- a type that isn't Bad, of a sound operand
pub good_of : (n : Names) (structs : ℕ) (k : Known) → SoundKnown n structs k → is_bad k.ty ≡ false
unfolding value_of
good_of n structs k h = go k.ty k.fixed (value_sound n structs (record { from = 0; to = 0 }) k h).good
  where
    go : (t : «Type») (f : Bool) → IsTrue (is_good structs (value_type t f)) → is_bad t ≡ false
    go Bad f z = cc
    go Void f z = refl
    go (Int t) f z = refl
    go (Struct m) f z = refl
    go (Array e c) f z = refl
    go (Pointer e g) f z = refl

pub target_sound : (n : Names) (structs : Structs) (count : ℕ) (k : Known) → SoundKnown n count k → target_fault structs k ≡ None → Target n count k
unfolding target_fault
target_sound n structs count k h e =
    let w = target_written k.ty k.designates (k.fixed || has_const structs k.ty) (good_of n count k h) e in
    let p = place_sound n count k.ty k.fixed k.designates k.tree h.tree (λ u d. true_and_false k.designates w.object d) in
    let free = or_false_first k.fixed (has_const structs k.ty) w.free in
    record { fits = p.fits; has = p.has; written = both_hold (is_object (place_of k.tree)) _ (p.written w.object) (nowhere_where (place_const n (place_of k.tree)) k.fixed p.kept free); variable = designated_variable n count k.ty k.fixed k.designates k.tree h.tree w.object; whole = w.whole }

-- ---- =

variable_good : (structs : ℕ) (ty : «Type») → IsTrue (is_variable structs ty) → value_type ty false ≡ ty → IsTrue (is_good structs ty)
variable_good structs ty h w = subst (λ t. IsTrue (is_good structs t)) w (good-variable structs ty false h)

is_value_variable : (structs : ℕ) (ty : «Type») → IsTrue (is_variable structs ty) → value_type ty false ≡ ty → IsTrue (test.is_value (var_type ty))
unfolding var_type
is_value_variable structs Bad h w = cc
is_value_variable structs Void h w = cc
is_value_variable structs (Int t) h w = refl
is_value_variable structs (Struct m) h w = refl
is_value_variable structs (Array e c) h w = cc
is_value_variable structs (Pointer e f) h w = refl

not_wrong : (structs : ℕ) (ty : «Type») (w : Value) → IsTrue (is_variable structs ty) → value_type ty false ≡ ty → misfits ty w ≡ false → is_wrong (fit_rule ty w) ≡ false
unfolding misfits
not_wrong structs Bad w h e k = cc
not_wrong structs Void w h e k = cc
not_wrong structs (Int t) w h e k = k
not_wrong structs (Struct m) w h e k = k
not_wrong structs (Array e' c) w h e k = cc
not_wrong structs (Pointer e' f) w h e k = k

stored_struct : (n : Names) (s : Span) (k : Known) (w : Value) (x : ExprTree) → is_struct k.ty ≡ true → assigned_type (stored_tree s k w x) ≡ var_type k.ty
unfolding stored_tree var_type
stored_struct n s k w x h = go k.ty h
  where
    go : (t : «Type») → is_struct t ≡ true → assigned_type (stored_tree s (record k { ty = t }) w x) ≡ var_type t
    go Bad z = cc
    go Void z = cc
    go (Int t) z = cc
    go (Struct m) z = refl
    go (Array e c) z = cc
    go (Pointer e f) z = cc

stored_by_sound : (n : Names) (structs : ℕ) (s left right : Span) (o : Option FaultKind) (m : Bool) (k : Known) (w : Value) (x : ExprTree) → structs ≤ length n.structs → (o ≡ None → Target n structs k) → SoundValue n structs w x → m ≡ misfits k.ty w → (stored_by o m s left k right w x).faults ≡ [] → SoundKnown n structs (stored_by o m s left k right w x).operand
unfolding stored_by stored_tree optional_fault
stored_by_sound n structs s left right (Some f) m k w x below t h e z = cc
stored_by_sound n structs s left right None true k w x below t h e z = cc
stored_by_sound n structs s left right None false k w x below t h e z =
    let p = t refl in
    let y = values_fit n structs k.ty w x h p.variable below (not_wrong structs k.ty w p.variable p.whole (sym e)) in
    plain_sound n structs k.ty (stored_tree s k w x)
    (record {
      typed = both_hold (place_fits n (place_of k.tree) && is_written n (place_of k.tree)) _ (both_hold (place_fits n (place_of k.tree)) _ p.fits p.written)
          (both_hold (test.same_types (place_type n (place_of k.tree)) (var_type k.ty) && test.is_value (var_type k.ty)) _
          (both_hold (test.same_types (place_type n (place_of k.tree)) (var_type k.ty)) _ (same_types-equal _ _ p.has) (is_value_variable structs k.ty p.variable p.whole))
          (both_hold (is_typed n (as_type k.ty w.null x)) _ y.typed (same_types-equal _ _ y.has)));
      has = refl;
    })
    (variable_good structs k.ty p.variable p.whole) p.whole (λ q. stored_struct n s k w x q)

pub stored_sound : (n : Names) (structs : Structs) (count : ℕ) (s left right : Span) (a b : Known) → count ≤ length n.structs → SoundKnown n count a → SoundKnown n count b → (stored structs s left a right b).faults ≡ [] → SoundKnown n count (stored structs s left a right b).operand
unfolding stored
stored_sound n structs count s left right a b below g h k =
    let known : (is_bad a.ty || is_bad b.ty) ≡ false = or_from (is_bad a.ty) (is_bad b.ty) (good_of n count a g) (good_of n count b h) in
    let k' = rw known at k in
    rw known (stored_by_sound n count s left right (target_fault structs a) (misfits a.ty (value_of b)) a (value_of b) (value_tree right b) below (target_sound n structs count a g) (value_sound n count right b h) refl k')

-- ---- op=

no_comparison : (op : BinaryOp) → is_compounding op ≡ true → is_comparison (integer_op op) ≡ false
unfolding is_compounding integer_op
no_comparison LogicalOr h = cc
no_comparison LogicalAnd h = cc
no_comparison BitOr h = refl
no_comparison BitXor h = refl
no_comparison BitAnd h = refl
no_comparison Equal h = cc
no_comparison NotEqual h = cc
no_comparison Less h = cc
no_comparison Greater h = cc
no_comparison LessEqual h = cc
no_comparison GreaterEqual h = cc
no_comparison ShiftLeft h = refl
no_comparison ShiftRight h = refl
no_comparison Add h = refl
no_comparison Subtract h = refl
no_comparison Multiply h = refl
no_comparison Divide h = refl
no_comparison Remainder h = refl

no_logical : (op : BinaryOp) → is_compounding op ≡ true → is_some (logical_of op) ≡ false
unfolding is_compounding logical_of
no_logical LogicalOr h = cc
no_logical LogicalAnd h = cc
no_logical BitOr h = refl
no_logical BitXor h = refl
no_logical BitAnd h = refl
no_logical Equal h = cc
no_logical NotEqual h = cc
no_logical Less h = cc
no_logical Greater h = cc
no_logical LessEqual h = cc
no_logical GreaterEqual h = cc
no_logical ShiftLeft h = refl
no_logical ShiftRight h = refl
no_logical Add h = refl
no_logical Subtract h = refl
no_logical Multiply h = refl
no_logical Divide h = refl
no_logical Remainder h = refl

-- what the tree of a compound assignment asks
record Compounds (n : Names) (op : BinaryOp) (r : Rule) (s t : «Type») (k : Bool) (y : ExprTree) : Type 0 where
  typed : IsTrue (is_typed n (converted_by r (val t k) (val s false) y))
  step : IsTrue (is_compound (step_of (integer_op op) r))
  back : IsTrue (converts (stepped (promoted_value (var_type s)) (step_of (integer_op op) r) (ty_of (converted_by r (val t k) (val s false) y))) (var_type s))
  kept : is_refused r ≡ false

compound_takes : (n : Names) (structs : ℕ) (op : BinaryOp) (s t : «Type») (m k : Bool) (r : Rule) (y : ExprTree) → Outcome op s m t k r → is_compounding op ≡ true → is_wrong (fit_rule s (val (rule_type r (val s false) (val t k)) false)) ≡ false → IsTrue (is_variable structs s) → Fitted n t y → Compounds n op r s t k y
unfolding fit_rule var_type is_refused step_of link_type
compound_takes n structs op s t i j r y (numbers a b m k p c d) o w good h =
    let z = numbers_take n structs op (promoted a) a b false k y p (usual-promoted-left a b) d h in
    record { typed = z.typed; step = ap not c; back = ap (λ u. converts u (Some (v.Int a))) z.is; kept = refl }
compound_takes n structs op s t i j r y (truths a b m k p c d) o w good h = true_and_false (is_comparison (integer_op op)) c (no_comparison op o)
compound_takes n structs op s t i j r y (shifts a b m k) o w good h =
    let z = shifts_take n structs op a b false k y h in
    record { typed = z.typed; step = refl; back = ap (λ u. converts u (Some (v.Int a))) z.is; kept = refl }
compound_takes n structs op s t i j r y (moves e f b m k) o w good h =
    let z = moves_take n structs op e f b false k y good h in
    record { typed = z.typed; step = refl; back = ap (λ u. converts u (Some (v.Pointer e f))) z.is ∙ both_hold (test.same_elem e e) _ (elem_self e) (not_or_self f); kept = refl }
compound_takes n structs op s t i j r y (moves_by a e f m k) o w good h = cc
compound_takes n structs op s t i j r y (differs e e' f f' m k same) o w good h = cc
compound_takes n structs op s t i j r y (compares e e' f f' m k c same) o w good h = true_and_false (is_comparison (integer_op op)) c (no_comparison op o)
compound_takes n structs op s t i j r y (null_right e f b m c) o w good h = true_and_false (is_comparison (integer_op op)) c (no_comparison op o)
compound_takes n structs op s t i j r y (null_left a e f k c) o w good h = true_and_false (is_comparison (integer_op op)) c (no_comparison op o)

-- a rule without a fault is that of the operator, and its result fits
record Kept (op : BinaryOp) (ty : «Type») (w : Value) (r : Rule) : Type 0 where
  forms : is_compounding op ≡ true
  same : r ≡ binary_rule op (val ty false) w
  fits : is_wrong (fit_rule ty (val (rule_type (binary_rule op (val ty false) w) (val ty false) w) false)) ≡ false

operator_kept : (op : BinaryOp) (ty : «Type») (w : Value) (l q : Span) → rule_faults (operator_rule op ty w) l q ≡ [] → Kept op ty w (operator_rule op ty w)
unfolding operator_rule rule_faults compound_rule
operator_kept op ty w l q h = by_test (is_compounding op) (is_wrong (fit_rule ty (val (rule_type (binary_rule op (val ty false) w) (val ty false) w) false))) refl refl h
  where
    by_test : (b c : Bool) → is_compounding op ≡ b → is_wrong (fit_rule ty (val (rule_type (binary_rule op (val ty false) w) (val ty false) w) false)) ≡ c → rule_faults (if b then if c then at_right else binary_rule op (val ty false) w else rule.Wrong true true) l q ≡ [] → Kept op ty w (if b then if c then at_right else binary_rule op (val ty false) w else rule.Wrong true true)
    by_test true true e f z = cc
    by_test true false e f z = record { forms = e; same = refl; fits = f }
    by_test false c e f z = cc

step_kept : (structs : ℕ) (op : BinaryOp) (ty : «Type») (w : Value) (l q : Span) → IsTrue (is_variable structs ty) → value_type ty false ≡ ty → rule_faults (step_rule_of op ty w) l q ≡ [] → Kept op ty w (step_rule_of op ty w)
unfolding step_rule_of
step_kept structs op Bad w l q h e k = cc
step_kept structs op Void w l q h e k = cc
step_kept structs op (Int t) w l q h e k = operator_kept op (Int t) w l q k
step_kept structs op (Struct m) w l q h e k = operator_kept op (Struct m) w l q k
step_kept structs op (Array e' c) w l q h e k = cc
step_kept structs op (Pointer e' f) w l q h e k = operator_kept op (Pointer e' f) w l q k

variable_plain : (n : Names) (structs : ℕ) (op : BinaryOp) (s t : «Type») (m k : Bool) (r : Rule) → Outcome op s m t k r → is_struct s ≡ false
variable_plain n structs op s t i j r (numbers a b m k p c d) = refl
variable_plain n structs op s t i j r (truths a b m k p c d) = refl
variable_plain n structs op s t i j r (shifts a b m k) = refl
variable_plain n structs op s t i j r (moves e f b m k) = refl
variable_plain n structs op s t i j r (moves_by a e f m k) = refl
variable_plain n structs op s t i j r (differs e e' f f' m k same) = refl
variable_plain n structs op s t i j r (compares e e' f f' m k c same) = refl
variable_plain n structs op s t i j r (null_right e f b m c) = refl
variable_plain n structs op s t i j r (null_left a e f k c) = refl

compound_sound : (n : Names) (structs : ℕ) (op : BinaryOp) (s left : Span) (k : Known) (w : Value) (x : ExprTree) (r : Rule) → Target n structs k → Compounds n op r k.ty w.ty w.null x → is_struct k.ty ≡ false → SoundKnown n structs (plain k.ty (compound_tree r op s left k w x))
unfolding compound_tree
compound_sound n structs op s left k w x r p h e =
    plain_sound n structs k.ty (compound_tree r op s left k w x)
    (record {
      typed = both_hold (place_fits n (place_of k.tree) && is_written n (place_of k.tree)) _ (both_hold (place_fits n (place_of k.tree)) _ p.fits p.written)
          (both_hold (test.same_types (place_type n (place_of k.tree)) (var_type k.ty)) _ (same_types-equal _ _ p.has)
          (both_hold (is_typed n (converted_by r w (val k.ty false) x)) _ h.typed (both_hold (is_compound (step_of (integer_op op) r)) _ h.step h.back)));
      has = refl;
    })
    (variable_good structs k.ty p.variable p.whole) p.whole (λ q. no_struct k.ty e q)

compounded_by_sound : (n : Names) (structs : ℕ) (op : BinaryOp) (s left right : Span) (o : Option FaultKind) (k : Known) (w : Value) (x : ExprTree) → (o ≡ None → Target n structs k) → SoundValue n structs w x → (compounded_by o (step_rule_of op k.ty w) op s left k right w x).faults ≡ [] → SoundKnown n structs (compounded_by o (step_rule_of op k.ty w) op s left k right w x).operand
unfolding compounded_by optional_fault
compounded_by_sound n structs op s left right (Some f) k w x t h z = cc
compounded_by_sound n structs op s left right None k w x t h z =
    let p = t refl in
    let kept = step_kept structs op k.ty w left right p.variable p.whole z in
    let fine : rule_faults (binary_rule op (val k.ty false) w) left right ≡ [] = subst (λ r. rule_faults r left right ≡ []) kept.same z in
    let out = binary_outcome op k.ty w.ty false w.null left right (no_logical op kept.forms) (good_known structs k.ty (variable_good structs k.ty p.variable p.whole)) (good_known structs w.ty h.good) fine in
    let c = compound_takes n structs op k.ty w.ty false w.null (binary_rule op (val k.ty false) w) x out kept.forms kept.fits p.variable (record { typed = h.typed; has = h.has }) in
    subst (λ r. SoundKnown n structs (compounded_by None r op s left k right w x).operand) (sym kept.same)
    (rw c.kept (compound_sound n structs op s left k w x (binary_rule op (val k.ty false) w) p c (variable_plain n structs op k.ty w.ty false w.null (binary_rule op (val k.ty false) w) out)))

pub compounded_sound : (n : Names) (structs : Structs) (count : ℕ) (op : BinaryOp) (s left right : Span) (a b : Known) → SoundKnown n count a → SoundKnown n count b → (compounded structs op s left a right b).faults ≡ [] → SoundKnown n count (compounded structs op s left a right b).operand
unfolding compounded
compounded_sound n structs count op s left right a b g h k =
    let known : (is_bad a.ty || is_bad b.ty) ≡ false = or_from (is_bad a.ty) (is_bad b.ty) (good_of n count a g) (good_of n count b h) in
    let k' = rw known at k in
    rw known (compounded_by_sound n count op s left right (target_fault structs a) a (value_of b) (value_tree right b) (target_sound n structs count a g) (value_sound n count right b h) k')

pub assigned_sound : (n : Names) (structs : Structs) (count : ℕ) (op : Option BinaryOp) (s left right : Span) (a b : Known) → count ≤ length n.structs → SoundKnown n count a → SoundKnown n count b → (assigned structs op s left a right b).faults ≡ [] → SoundKnown n count (assigned structs op s left a right b).operand
unfolding assigned
assigned_sound n structs count None s left right a b below g h k = stored_sound n structs count s left right a b below g h k
assigned_sound n structs count (Some op) s left right a b below g h k = compounded_sound n structs count op s left right a b g h k
