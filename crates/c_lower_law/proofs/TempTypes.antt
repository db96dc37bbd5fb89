-- Temporaries are integers and pointers: those of expressions.
use Rattle.std.proofs.Common.{◌≡◌, ◌∙◌, ℕ, ◌+◌, pos, refl, ap, sym, subst, Bool, true, false, not, Option, Some, None, List, [], ◌∷◌, ◌++◌, map, if◌then◌else◌}
use Rattle.std.specs.Prelude.{IsTrue, ◌&&◌, ◌||◌, is_none, slice_get, option_map}
use Rattle.std.proofs.lemmas.Option.{get_or_from_slice_get}
use Rattle.pt_base.specs.declared.int_type.IntType.{IntType}
use Rattle.pt_base.specs.declared.int_type.IntType.TheVariants as i
use Rattle.pt_base.specs.declared.span.Span.{Span}
use Rattle.pt_base.proofs.Booleans.{both_hold_first, both_hold_second, false_not_true}
use Rattle.pt_base.proofs.Places.{get_map}
use Rattle.pt_int.specs.declared.operator.UnOp.{UnOp}
use Rattle.pt_int.specs.declared.operator.UnOp.TheVariants as u
use Rattle.pt_int.specs.declared.operator.BinOp.{BinOp}
use Rattle.pt_tree.specs.declared.signature.Elem.{Elem}
use Rattle.pt_tree.specs.declared.signature.Elem.TheVariants as el
use Rattle.pt_tree.specs.declared.signature.Param.{Param}
use Rattle.pt_tree.specs.declared.signature.ParamKind.{ParamKind}
use Rattle.pt_tree.specs.declared.signature.ParamKind.TheVariants as k
use Rattle.pt_tree.specs.declared.signature.Signature.{Signature}
use Rattle.typed_tree.specs.declared.types.VarTy.{VarTy}
use Rattle.typed_tree.specs.declared.types.VarTy.TheVariants.{Int, Struct, Array, Pointer}
use Rattle.typed_tree.specs.declared.types.StructInfo.{StructInfo}
use Rattle.typed_tree.specs.declared.variable.Var.{Var}
use Rattle.typed_tree.specs.declared.variable.TypedGlobal.{TypedGlobal}
use Rattle.typed_tree.specs.declared.link.LinkStep.{LinkStep}
use Rattle.typed_tree.specs.declared.link.LinkStep.TheVariants.{Arithmetic, Shift, Move, MoveBy, Difference, Compare}
use Rattle.typed_tree.specs.declared.link.LogicalOp.{LogicalOp}
use Rattle.typed_tree.specs.ExpressionTree as x
use Rattle.typed_tree.specs.ExpressionTree.{ExprTree, typed, FormTree, ExprTrees, no_exprs, expr_and, LinkTree, LinkTrees, no_links, link_and, link, OperandTrees, no_operands, operand_and, operand, PlaceTree, place, RootTree, StepTree, StepTrees, no_steps, step_and}
use Rattle.typed_tree.specs.TypeTests.{same_types, both_elem, integer_of, pointee_of, item_of, element_of, is_scalar, is_value, type_of_elem}
use Rattle.typed_tree.specs.TypeRules as r
use Rattle.typed_tree.specs.TypeRules.{is_arm, converts, unary_fits, is_compound, promoted_value}
use Rattle.typed_tree.specs.WellFormedExpression as f
use Rattle.typed_tree.specs.WellFormedExpression.{Names, is_typed, form_fits, all_typed, links_fit, operands_fit, place_fits, root_fits, steps_fit, ty_of, is_struct, is_assign, assigned_type, root_type, steps_type, place_type, place_const, item_type, has_links, has_operands, is_written, is_addressed, keeps_const, param_type, arguments_fit, call_fits, is_main}
use Rattle.source_meaning.specs.Expressions.{type_or_int, type_of}
use Rattle.typed_tree.proofs.SameTypes.{equal_options}
use Rattle.pt_core.specs.CodeTree as t
use Rattle.pt_core.specs.CodeTree.{local, global, deref}
use Rattle.pt_core.specs.Types.{field_type, pointee_type}
use Rattle.lowering.specs.Lowered.{Temp, Effects, Lowered, LoweredPlace, Arguments, past, holding, held_if, int}
use Rattle.lowering.specs.Purity.{takes_left_first, is_pure, are_pure}
use Rattle.lowering.specs.Expressions as l
use Rattle.lowering.specs.Expressions.{Scope, value_in, form_in, effects_in, form_effects, links_in, operands_in, arguments_in, place_in, root_in, steps_in, object_in, form_object, started, with_operand, fixed_root, fixed_through, fixed_if, left_place, assigned, behind, field_in, decayed, decayed_type, linked, chain_so_far, element_place}
use Rattle.c_lower_law.proofs.Places.{some_same, field_of_struct}
use Rattle.c_lower_law.proofs.Values.{Scalar}
use Rattle.c_lower_law.proofs.OperandTypes.{ScalarType, scalar_type, convert_type}
use Rattle.c_lower_law.proofs.Forms.{fixed_type, link_first}
use Rattle.c_lower_law.proofs.Parts.{steps_some}
use Rattle.c_lower_law.proofs.Entering.{AreScalar}

-- ---- lists

pub scalar_both : (xs ys : List Temp) → AreScalar xs → AreScalar ys → AreScalar (xs ++ ys)
scalar_both [] ys h g = g
scalar_both (x ∷ xs) ys h g = (h.0, scalar_both xs ys h.1 g)

pub scalar_more : (xs : List Temp) (x : Temp) → AreScalar xs → Scalar x.ty → AreScalar (xs ++ x ∷ [])
scalar_more xs x h g = scalar_both xs (x ∷ []) h (g, tt)

held_scalar : (b : Bool) (n : ℕ) (x : Temp) (far : Lowered) → AreScalar far.temps → Scalar x.ty → AreScalar (held_if b n x far).temps
held_scalar true n x far h g = scalar_more far.temps x h g
held_scalar false n x far h g = h

held_where : (b : Bool) (n : ℕ) (x : Temp) (far : Lowered) → AreScalar far.temps → (b ≡ true → Scalar x.ty) → AreScalar (held_if b n x far).temps
held_where true n x far h g = scalar_more far.temps x h (g refl)
held_where false n x far h g = h

-- ---- places

abbrev ThroughScalar : Option Temp → Type 0
ThroughScalar None = Unit {0}
ThroughScalar (Some x) = Scalar x.ty

pub record PlaceScalar (u : VarTy) (p : LoweredPlace) : Type 0 where
  pub ty : p.ty ≡ u
  pub temps : AreScalar p.temps
  pub through : ThroughScalar p.through

root_scalar : (n : ℕ) (x : Temp) (p : LoweredPlace) (q : t.PlaceTree) → Scalar x.ty → AreScalar p.temps → AreScalar (fixed_root n x p q).temps
root_scalar n x p (t.place (deref pointer s) path) h g = scalar_more p.temps x g h
root_scalar n x p (t.place (local v) path) h g = g
root_scalar n x p (t.place (global v) path) h g = g

through_scalar : (n : ℕ) (o : Option Temp) (p : LoweredPlace) → ThroughScalar o → AreScalar p.temps → AreScalar (fixed_through n o p).temps
through_scalar n None p h g = g
through_scalar n (Some x) p h g = root_scalar n x p p.place h g

fixed_scalar : (b : Bool) (n : ℕ) (u : VarTy) (p : LoweredPlace) → PlaceScalar u p → AreScalar (fixed_if b n p).temps
fixed_scalar true n u p h = through_scalar n p.through p h.through h.temps
fixed_scalar false n u p h = h.temps

-- what stays of it where it is fixed
root_through : (n : ℕ) (x : Temp) (p : LoweredPlace) (q : t.PlaceTree) → ThroughScalar p.through → ThroughScalar (fixed_root n x p q).through
root_through n x p (t.place (deref pointer s) path) h = h
root_through n x p (t.place (local v) path) h = h
root_through n x p (t.place (global v) path) h = h

fixed_through_scalar : (b : Bool) (n : ℕ) (p : LoweredPlace) → ThroughScalar p.through → ThroughScalar (fixed_if b n p).through
fixed_through_scalar true n p h = go p.through h
  where
    go : (o : Option Temp) → ThroughScalar p.through → ThroughScalar (fixed_through n o p).through
    go None h = h
    go (Some x) h = root_through n x p p.place h
fixed_through_scalar false n p h = h

fixed_place : (b : Bool) (n : ℕ) (u : VarTy) (p : LoweredPlace) → PlaceScalar u p → PlaceScalar u (fixed_if b n p)
fixed_place b n u p h = record { ty = fixed_type n b p ∙ h.ty; temps = fixed_scalar b n u p h; through = fixed_through_scalar b n p h.through }

assigned_scalar : (whole : Bool) (u : VarTy) (to of : LoweredPlace) (v : Lowered) → PlaceScalar u to → AreScalar of.temps → AreScalar v.temps → PlaceScalar u (assigned whole to of v)
assigned_scalar true u to of v h g k = record { ty = h.ty; temps = scalar_both to.temps of.temps h.temps g; through = h.through }
assigned_scalar false u to of v h g k = record { ty = h.ty; temps = scalar_both to.temps v.temps h.temps k; through = h.through }

element_kind : (fixed : Bool) (a w : VarTy) (z : Option VarTy) → item_type (Some a) (integer_of z) ≡ Some w → pointee_type (decayed_type fixed a) ≡ w
element_kind fixed a w None h = cc
element_kind fixed a w (Some (Struct n)) h = cc
element_kind fixed a w (Some (Array e n)) h = cc
element_kind fixed a w (Some (Pointer e g)) h = cc
element_kind fixed (Int t) w (Some (Int u)) h = cc
element_kind fixed (Struct n) w (Some (Int u)) h = cc
element_kind fixed (Pointer e g) w (Some (Int u)) h = cc
element_kind fixed (Array elem count) w (Some (Int u)) h = some_same (type_of_elem elem) w h

behind_scalar : (s : Span) (e : ExprTree) (v : Lowered) (a : VarTy) → option_map type_of_elem (pointee_of (ty_of e)) ≡ Some a → AreScalar v.temps → PlaceScalar a (behind s e v)
behind_scalar s (typed at (Some (Pointer elem fixed)) form) v a is h = record { ty = some_same (type_of_elem elem) a is; temps = h; through = tt }
behind_scalar s (typed at None form) v a is h = cc
behind_scalar s (typed at (Some (Int t)) form) v a is h = cc
behind_scalar s (typed at (Some (Struct n)) form) v a is h = cc
behind_scalar s (typed at (Some (Array elem n)) form) v a is h = cc

assigned_some : (e : ExprTree) (a : VarTy) → assigned_type e ≡ Some a → type_or_int (ty_of e) ≡ a
assigned_some (typed s t form) a h = go (is_assign form && is_struct t) t h
  where
    go : (b : Bool) (t : Option VarTy) → (if b then t else None) ≡ Some a → type_or_int t ≡ a
    go true t h = ap type_or_int h
    go false t h = cc

-- ---- types

same_place : (o t : Option VarTy) (u : VarTy) → same_types o t ≡ true → t ≡ Some u → o ≡ Some u
same_place o t u h is = equal_options o t h ∙ is

value_some : (t : Option VarTy) → is_value t ≡ true → (u : VarTy) × (t ≡ Some u)
value_some None h = false_not_true h
value_some (Some u) h = (u, refl)

decay_some : (o : Option VarTy) (e : Option Elem) → both_elem (item_of o) e ≡ true → (u : VarTy) × (o ≡ Some u)
decay_some None e h = false_not_true h
decay_some (Some u) e h = (u, refl)

address_some : (o : Option VarTy) (e : Option Elem) → both_elem (element_of o) e ≡ true → (u : VarTy) × (o ≡ Some u)
address_some None e h = false_not_true h
address_some (Some u) e h = (u, refl)

unary_scalar : (op : UnOp) (a t : Option VarTy) → unary_fits op a t ≡ true → Scalar (type_or_int t)
unary_scalar op a None h = tt
unary_scalar op a (Some (Int t)) h = tt
unary_scalar op a (Some (Pointer elem fixed)) h = tt
unary_scalar op a (Some (Struct n)) h = absurd (no_struct op a h)
  where
    same_promoted : (a : Option VarTy) → r.is_same_promoted a (Some (Struct n)) ≡ true → ⊥
    same_promoted None h = false_not_true h
    same_promoted (Some (Int z)) h = false_not_true h
    same_promoted (Some (Struct z)) h = false_not_true h
    same_promoted (Some (Array z m)) h = false_not_true h
    same_promoted (Some (Pointer z m)) h = false_not_true h

    no_struct : (op : UnOp) (a : Option VarTy) → unary_fits op a (Some (Struct n)) ≡ true → ⊥
    no_struct u.Minus a h = same_promoted a h
    no_struct u.Plus a h = same_promoted a h
    no_struct u.Flip a h = same_promoted a h
    no_struct u.Not a h = false_not_true (both_hold_second (is_scalar a) false h)
unary_scalar op a (Some (Array elem n)) h = absurd (no_array op a h)
  where
    same_promoted : (a : Option VarTy) → r.is_same_promoted a (Some (Array elem n)) ≡ true → ⊥
    same_promoted None h = false_not_true h
    same_promoted (Some (Int z)) h = false_not_true h
    same_promoted (Some (Struct z)) h = false_not_true h
    same_promoted (Some (Array z m)) h = false_not_true h
    same_promoted (Some (Pointer z m)) h = false_not_true h

    no_array : (op : UnOp) (a : Option VarTy) → unary_fits op a (Some (Array elem n)) ≡ true → ⊥
    no_array u.Minus a h = same_promoted a h
    no_array u.Plus a h = same_promoted a h
    no_array u.Flip a h = same_promoted a h
    no_array u.Not a h = false_not_true (both_hold_second (is_scalar a) false h)

arm_scalar : (t : Option VarTy) → is_arm t ≡ true → Scalar (type_or_int t)
arm_scalar None h = tt
arm_scalar (Some (Int t)) h = tt
arm_scalar (Some (Pointer elem fixed)) h = tt
arm_scalar (Some (Struct n)) h = false_not_true h
arm_scalar (Some (Array elem n)) h = false_not_true h

own_scalar : (t : Option VarTy) → ScalarType t → Scalar (type_or_int t)
own_scalar t k = subst Scalar (sym (ap type_or_int k.is)) k.scalar

-- what a link gives
moved_scalar : (a b : Option VarTy) (to : VarTy) → r.moved_type a b ≡ Some to → Scalar to
moved_scalar None b to h = cc
moved_scalar (Some (Int z)) b to h = cc
moved_scalar (Some (Struct z)) b to h = cc
moved_scalar (Some (Array z m)) b to h = cc
moved_scalar (Some (Pointer z m)) None to h = cc
moved_scalar (Some (Pointer z m)) (Some (Int q)) to h = subst Scalar (some_same (Pointer z m) to h) tt
moved_scalar (Some (Pointer z m)) (Some (Struct q)) to h = cc
moved_scalar (Some (Pointer z m)) (Some (Array q w)) to h = cc
moved_scalar (Some (Pointer z m)) (Some (Pointer q w)) to h = cc

where_scalar : (b : Bool) (q : IntType) (to : VarTy) → (if b then Some (Int q) else None) ≡ Some to → Scalar to
where_scalar true q to h = subst Scalar (some_same (Int q) to h) tt
where_scalar false q to h = cc

arithmetic_scalar : (op : BinOp) (t1 : IntType) (a b : Option IntType) (to : VarTy) → r.arithmetic_type op t1 a b ≡ Some to → Scalar to
arithmetic_scalar op t1 (Some a) (Some b) to h = where_scalar _ _ to h
arithmetic_scalar op t1 None b to h = cc
arithmetic_scalar op t1 (Some a) None to h = cc

shift_scalar : (a b : Option IntType) (to : VarTy) → r.shift_type a b ≡ Some to → Scalar to
shift_scalar (Some a) (Some b) to h = where_scalar _ _ to h
shift_scalar None b to h = cc
shift_scalar (Some a) None to h = cc

step_scalar : (a z : Option VarTy) (step : LinkStep) (to : VarTy) → r.stepped a step z ≡ Some to → Scalar to
step_scalar a z (Arithmetic op t1) to h = arithmetic_scalar op t1 (integer_of a) (integer_of z) to h
step_scalar a z (Shift back) to h = shift_scalar (integer_of a) (integer_of z) to h
step_scalar a z (Move back) to h = moved_scalar a z to h
step_scalar a z MoveBy to h = moved_scalar z a to h
step_scalar a z Difference to h = where_scalar _ _ to h
step_scalar a z (Compare op) to h = where_scalar _ _ to h

links_scalar : (n : Names) (links : LinkTrees) (a t : Option VarTy) → has_links links ≡ true → links_fit n a links t ≡ true → Scalar (type_or_int t)
links_scalar n no_links a t h k = false_not_true h
links_scalar n (link_and (link at to step ex) no_links) a t h k =
    let more = both_hold_second (is_typed n ex) (same_types (r.stepped a step (ty_of ex)) (Some to) && same_types (Some to) t) k in
    subst (λ z. Scalar (type_or_int z)) (equal_options (Some to) t (both_hold_second (same_types (r.stepped a step (ty_of ex)) (Some to)) (same_types (Some to) t) more))
    (step_scalar a (ty_of ex) step to (equal_options (r.stepped a step (ty_of ex)) (Some to) (both_hold_first (same_types (r.stepped a step (ty_of ex)) (Some to)) (same_types (Some to) t) more)))
links_scalar n (link_and (link at to step ex) (link_and l1 rest)) a t h k =
    links_scalar n (link_and l1 rest) (Some to) t refl (both_hold_second (same_types (r.stepped a step (ty_of ex)) (Some to)) (links_fit n (Some to) (link_and l1 rest) t) (both_hold_second (is_typed n ex) (same_types (r.stepped a step (ty_of ex)) (Some to) && links_fit n (Some to) (link_and l1 rest) t) k))

argument_scalar : (e : ExprTree) (kind : ParamKind) → same_types (ty_of e) (Some (param_type kind)) ≡ true → Scalar (type_of e)
argument_scalar (typed s t form) kind h = subst (λ z. Scalar (type_or_int z)) (sym (equal_options t (Some (param_type kind)) h)) (of_kind kind)
  where
    of_kind : (kind : ParamKind) → Scalar (param_type kind)
    of_kind (k.Int z) = tt
    of_kind (k.Ptr elem fixed) = tt

type_own : (e : ExprTree) → type_of e ≡ type_or_int (ty_of e)
type_own (typed s t form) = refl

record CallShape (es : ExprTrees) (t : Option VarTy) : Type 0 where
  params : List Param
  fit : arguments_fit params es ≡ true
  result : Option IntType
  is : t ≡ option_map Int result

call_shape : (o : Option Signature) (es : ExprTrees) (t : Option VarTy) → call_fits o es t ≡ true → CallShape es t
call_shape None es t h = false_not_true h
call_shape (Some s) es t h =
    let rest = both_hold_second (not (is_main s)) (arguments_fit s.params es && same_types t (option_map Int s.result)) h in
    record { params = s.params; fit = both_hold_first (arguments_fit s.params es) (same_types t (option_map Int s.result)) rest; result = s.result; is = equal_options t (option_map Int s.result) (both_hold_second (arguments_fit s.params es) (same_types t (option_map Int s.result)) rest) }

called_scalar : (g : ℕ) (s : Span) (t : Option VarTy) (e : ExprTree) (n : ℕ) (a : Arguments) (o : Option IntType) → t ≡ option_map Int o → AreScalar a.temps → AreScalar (l.called g s t e n a).temps
called_scalar g s None e n a o is h = scalar_both a.temps [] h tt
called_scalar g s (Some ty) e n a None is h = cc
called_scalar g s (Some ty) e n a (Some z) is h = scalar_more a.temps (holding ty e) h (subst Scalar (sym (some_same ty (Int z) is)) tt)

-- ---- all forms

abbrev pub scope_for : Names → Scope
scope_for n = record { structs = n.structs; globals = map (λ g. g.var.ty) n.globals; variables = map (λ z. z.ty) n.vars }

abbrev PlaceKnown : PlaceTree → Type 0
PlaceKnown p = (n : Names) (k : ℕ) (w : VarTy) → place_fits n p ≡ true → place_type n p ≡ Some w → PlaceScalar w (place_in (scope_for n) p k)

abbrev ValueKnown : ExprTree → Type 0
ValueKnown e = (n : Names) (k : ℕ) → is_typed n e ≡ true → AreScalar (value_in (scope_for n) e k).temps

abbrev ObjectKnown : ExprTree → Type 0
ObjectKnown e = (n : Names) (k : ℕ) → is_typed n e ≡ true → PlaceScalar (type_or_int (ty_of e)) (object_in (scope_for n) e k)

read_scalar : (p : PlaceTree) → PlaceKnown p → (t : Option VarTy) (n : Names) (k : ℕ) → form_fits n (x.read p) t ≡ true → AreScalar (place_in (scope_for n) p k).temps
read_scalar p known t n k h =
    let rest = both_hold_second (place_fits n p) (same_types (place_type n p) t && is_value t) h in
    let some = value_some t (both_hold_second (same_types (place_type n p) t) (is_value t) rest) in
    (known n k some.0 (both_hold_first (place_fits n p) (same_types (place_type n p) t && is_value t) h) (same_place (place_type n p) t some.0 (both_hold_first (same_types (place_type n p) t) (is_value t) rest) some.1)).temps

decay_scalar : (p : PlaceTree) → PlaceKnown p → (t : Option VarTy) (n : Names) (k : ℕ) → form_fits n (x.decay p) t ≡ true → AreScalar (place_in (scope_for n) p k).temps
decay_scalar p known t n k h =
    let some = decay_some (place_type n p) (pointee_of t) (both_hold_first (both_elem (item_of (place_type n p)) (pointee_of t)) (keeps_const (place_const n p) t) (both_hold_second (place_fits n p) (both_elem (item_of (place_type n p)) (pointee_of t) && keeps_const (place_const n p) t) h)) in
    (known n k some.0 (both_hold_first (place_fits n p) (both_elem (item_of (place_type n p)) (pointee_of t) && keeps_const (place_const n p) t) h) some.1).temps

address_scalar : (p : PlaceTree) → PlaceKnown p → (t : Option VarTy) (n : Names) (k : ℕ) → form_fits n (x.address p) t ≡ true → AreScalar (place_in (scope_for n) p k).temps
address_scalar p known t n k h =
    let rest = both_hold_second (is_addressed p) (both_elem (element_of (place_type n p)) (pointee_of t) && keeps_const (place_const n p) t) (both_hold_second (place_fits n p) (is_addressed p && (both_elem (element_of (place_type n p)) (pointee_of t) && keeps_const (place_const n p) t)) h) in
    let some = address_some (place_type n p) (pointee_of t) (both_hold_first (both_elem (element_of (place_type n p)) (pointee_of t)) (keeps_const (place_const n p) t) rest) in
    (known n k some.0 (both_hold_first (place_fits n p) (is_addressed p && (both_elem (element_of (place_type n p)) (pointee_of t) && keeps_const (place_const n p) t)) h) some.1).temps

assign_scalar : (used : Bool) (p : PlaceTree) (a : ExprTree) → PlaceKnown p → ValueKnown a → ObjectKnown a → (t : Option VarTy) (n : Names) (k : ℕ) → form_fits n (x.assign p a) t ≡ true →
    (let to = left_place used a k (place_in (scope_for n) p k) in PlaceScalar (type_or_int t) (assigned (l.is_struct t) to (object_in (scope_for n) a (past k to.temps)) (value_in (scope_for n) a (past k to.temps))))
assign_scalar used p a known values objects t n k h =
    let first = both_hold_first (place_fits n p && is_written n p) ((same_types (place_type n p) t && is_value t) && (is_typed n a && same_types (ty_of a) t)) h in
    let rest = both_hold_second (place_fits n p && is_written n p) ((same_types (place_type n p) t && is_value t) && (is_typed n a && same_types (ty_of a) t)) h in
    let kind = both_hold_first (same_types (place_type n p) t && is_value t) (is_typed n a && same_types (ty_of a) t) rest in
    let some = value_some t (both_hold_second (same_types (place_type n p) t) (is_value t) kind) in
    let own = both_hold_first (is_typed n a) (same_types (ty_of a) t) (both_hold_second (same_types (place_type n p) t && is_value t) (is_typed n a && same_types (ty_of a) t) rest) in
    let to = left_place used a k (place_in (scope_for n) p k) in
    assigned_scalar (l.is_struct t) (type_or_int t) to (object_in (scope_for n) a (past k to.temps)) (value_in (scope_for n) a (past k to.temps))
    (subst (λ z. PlaceScalar z to) (sym (ap type_or_int some.1)) (fixed_place (used || not (is_pure a)) k some.0 (place_in (scope_for n) p k) (known n k some.0 (both_hold_first (place_fits n p) (is_written n p) first) (same_place (place_type n p) t some.0 (both_hold_first (same_types (place_type n p) t) (is_value t) kind) some.1))))
    (objects n (past k to.temps) own).temps (values n (past k to.temps) own)

compound_scalar : (used : Bool) (p : PlaceTree) (step : LinkStep) (a : ExprTree) → PlaceKnown p → ValueKnown a → (at : Span) (t : Option VarTy) (n : Names) (k : ℕ) → form_fits n (x.compound p at step a) t ≡ true →
    (let to = left_place used a k (place_in (scope_for n) p k) in AreScalar (to.temps ++ (value_in (scope_for n) a (past k to.temps)).temps))
compound_scalar used p step a known values at t n k h =
    let first = both_hold_first (place_fits n p && is_written n p) (same_types (place_type n p) t && (is_typed n a && (is_compound step && converts (r.stepped (promoted_value t) step (ty_of a)) t))) h in
    let rest = both_hold_second (place_fits n p && is_written n p) (same_types (place_type n p) t && (is_typed n a && (is_compound step && converts (r.stepped (promoted_value t) step (ty_of a)) t))) h in
    let more = both_hold_second (same_types (place_type n p) t) (is_typed n a && (is_compound step && converts (r.stepped (promoted_value t) step (ty_of a)) t)) rest in
    let c = convert_type (r.stepped (promoted_value t) step (ty_of a)) t (both_hold_second (is_compound step) (converts (r.stepped (promoted_value t) step (ty_of a)) t) (both_hold_second (is_typed n a) (is_compound step && converts (r.stepped (promoted_value t) step (ty_of a)) t) more)) in
    let to = left_place used a k (place_in (scope_for n) p k) in
    scalar_both to.temps (value_in (scope_for n) a (past k to.temps)).temps
    (fixed_scalar (used || not (is_pure a)) k c.to (place_in (scope_for n) p k) (known n k c.to (both_hold_first (place_fits n p) (is_written n p) first) (same_place (place_type n p) t c.to (both_hold_first (same_types (place_type n p) t) (is_typed n a && (is_compound step && converts (r.stepped (promoted_value t) step (ty_of a)) t)) rest) c.gives_is)))
    (values n (past k to.temps) (both_hold_first (is_typed n a) (is_compound step && converts (r.stepped (promoted_value t) step (ty_of a)) t) more))

step_place : (p : PlaceTree) → PlaceKnown p → (back postfix : Bool) (t : Option VarTy) (n : Names) (k : ℕ) → ((place_fits n p && is_written n p) && (same_types (place_type n p) t && is_scalar t)) ≡ true → (w : VarTy) × PlaceScalar w (place_in (scope_for n) p k) × Scalar w
step_place p known back postfix t n k h =
    let first = both_hold_first (place_fits n p && is_written n p) (same_types (place_type n p) t && is_scalar t) h in
    let rest = both_hold_second (place_fits n p && is_written n p) (same_types (place_type n p) t && is_scalar t) h in
    let z = scalar_type t (both_hold_second (same_types (place_type n p) t) (is_scalar t) rest) in
    (z.u, known n k z.u (both_hold_first (place_fits n p) (is_written n p) first) (same_place (place_type n p) t z.u (both_hold_first (same_types (place_type n p) t) (is_scalar t) rest) z.is), z.scalar)

mutual
  pub value_scalar : (e : ExprTree) (n : Names) (k : ℕ) → is_typed n e ≡ true → AreScalar (value_in (scope_for n) e k).temps
  value_scalar (typed s t form) n k h = form_scalar form s t n k h

  form_scalar : (form : FormTree) (s : Span) (t : Option VarTy) (n : Names) (k : ℕ) → form_fits n form t ≡ true → AreScalar (form_in (scope_for n) form s t k).temps
  form_scalar (x.constant z) s t n k h = tt
  form_scalar x.null s t n k h = tt
  form_scalar (x.read p) s t n k h = read_scalar p (place_scalar p) t n k h
  form_scalar (x.decay p) s t n k h = decay_scalar p (place_scalar p) t n k h
  form_scalar (x.address p) s t n k h = address_scalar p (place_scalar p) t n k h
  form_scalar (x.unary op a) s t n k h = value_scalar a n k (both_hold_first (is_typed n a) (unary_fits op (ty_of a) t) h)
  form_scalar (x.convert a) s t n k h = value_scalar a n k (both_hold_first (is_typed n a) (converts (ty_of a) t) h)
  form_scalar (x.discard a) s t n k h = effects_scalar a n k (both_hold_first (is_typed n a) (is_none t) h)
  form_scalar (x.chain a links) s t n k h =
      links_in_scalar links n (ty_of a) t a [] s (type_of a) (value_in (scope_for n) a k) k (type_own a) (both_hold_second (has_links links) (links_fit n (ty_of a) links t) (both_hold_second (is_typed n a) (has_links links && links_fit n (ty_of a) links t) h))
      (value_scalar a n k (both_hold_first (is_typed n a) (has_links links && links_fit n (ty_of a) links t) h))
  form_scalar (x.logical op a others) s t n k h =
      let first = both_hold_first (is_typed n a && is_scalar (ty_of a)) ((has_operands others && operands_fit n others) && same_types t r.int) h in
      let rest = both_hold_first (has_operands others && operands_fit n others) (same_types t r.int) (both_hold_second (is_typed n a && is_scalar (ty_of a)) ((has_operands others && operands_fit n others) && same_types t r.int) h) in
      let v = value_in (scope_for n) a k in
      operands_scalar others n op (past k v.temps) (started (typed s t (x.logical op a others)) (past k v.temps) (type_of a) s v) k (both_hold_second (has_operands others) (operands_fit n others) rest)
      (scalar_more v.temps (holding int (typed s t (x.logical op a others))) (value_scalar a n k (both_hold_first (is_typed n a) (is_scalar (ty_of a)) first)) tt)
  form_scalar (x.choice a b d) s t n k h =
      let first = both_hold_first (is_typed n a && is_scalar (ty_of a)) ((is_typed n b && same_types (ty_of b) t) && ((is_typed n d && same_types (ty_of d) t) && is_arm t)) h in
      let second = both_hold_second (is_typed n a && is_scalar (ty_of a)) ((is_typed n b && same_types (ty_of b) t) && ((is_typed n d && same_types (ty_of d) t) && is_arm t)) h in
      let of_b = both_hold_first (is_typed n b && same_types (ty_of b) t) ((is_typed n d && same_types (ty_of d) t) && is_arm t) second in
      let third = both_hold_second (is_typed n b && same_types (ty_of b) t) ((is_typed n d && same_types (ty_of d) t) && is_arm t) second in
      let v = value_in (scope_for n) a k in
      let y = value_in (scope_for n) b (past k v.temps + 1) in
      let z = value_in (scope_for n) d (past (past k v.temps + 1) y.temps) in
      let own = holding (type_or_int t) (typed s t (x.choice a b d)) in
      scalar_both ((v.temps ++ own ∷ []) ++ y.temps) z.temps
      (scalar_both (v.temps ++ own ∷ []) y.temps (scalar_more v.temps own (value_scalar a n k (both_hold_first (is_typed n a) (is_scalar (ty_of a)) first)) (arm_scalar t (both_hold_second (is_typed n d && same_types (ty_of d) t) (is_arm t) third)))
      (value_scalar b n (past k v.temps + 1) (both_hold_first (is_typed n b) (same_types (ty_of b) t) of_b)))
      (value_scalar d n (past (past k v.temps + 1) y.temps) (both_hold_first (is_typed n d) (same_types (ty_of d) t) (both_hold_first (is_typed n d && same_types (ty_of d) t) (is_arm t) third)))
  form_scalar (x.assign p a) s t n k h = (assign_scalar true p a (place_scalar p) (value_scalar a) (object_scalar a) t n k h).temps
  form_scalar (x.compound p at step a) s t n k h = compound_scalar true p step a (place_scalar p) (value_scalar a) at t n k h
  form_scalar (x.step p at back false) s t n k h =
      let b = step_place p (place_scalar p) back false t n k h in scalar_both (fixed_if true k (place_in (scope_for n) p k)).temps [] (fixed_scalar true k b.0 (place_in (scope_for n) p k) b.1) tt
  form_scalar (x.step p at back true) s t n k h =
      let b = step_place p (place_scalar p) back true t n k h in
      let to = fixed_if true k (place_in (scope_for n) p k) in
      scalar_both (to.temps ++ holding to.ty (typed at (Some to.ty) (x.read p)) ∷ []) []
      (scalar_more to.temps (holding to.ty (typed at (Some to.ty) (x.read p))) (fixed_scalar true k b.0 (place_in (scope_for n) p k) b.1) (subst Scalar (sym (fixed_type k true (place_in (scope_for n) p k) ∙ b.1.ty)) b.2)) tt
  form_scalar (x.call g es) s t n k h =
      let c = call_shape (slice_get n.signatures g.0) es t (both_hold_second (all_typed n es) (call_fits (slice_get n.signatures g.0) es t) h) in
      called_scalar g.0 s t (typed s t (x.call g es)) k (arguments_in (scope_for n) es k) c.result c.is (arguments_scalar es n c.params k (both_hold_first (all_typed n es) (call_fits (slice_get n.signatures g.0) es t) h) c.fit)

  pub effects_scalar : (e : ExprTree) (n : Names) (k : ℕ) → is_typed n e ≡ true → AreScalar (effects_in (scope_for n) e k).temps
  effects_scalar (typed s t form) n k h = form_effects_scalar form s t n k h

  form_effects_scalar : (form : FormTree) (s : Span) (t : Option VarTy) (n : Names) (k : ℕ) → form_fits n form t ≡ true → AreScalar (form_effects (scope_for n) form s t k (form_in (scope_for n) form s t k)).temps
  form_effects_scalar (x.constant z) s t n k h = tt
  form_effects_scalar x.null s t n k h = tt
  form_effects_scalar (x.read p) s t n k h = read_scalar p (place_scalar p) t n k h
  form_effects_scalar (x.decay p) s t n k h = decay_scalar p (place_scalar p) t n k h
  form_effects_scalar (x.address p) s t n k h = address_scalar p (place_scalar p) t n k h
  form_effects_scalar (x.unary op a) s t n k h =
      scalar_more (value_in (scope_for n) a k).temps (holding (type_or_int t) (typed s t (x.unary op a))) (value_scalar a n k (both_hold_first (is_typed n a) (unary_fits op (ty_of a) t) h)) (unary_scalar op (ty_of a) t (both_hold_second (is_typed n a) (unary_fits op (ty_of a) t) h))
  form_effects_scalar (x.convert a) s t n k h = effects_scalar a n k (both_hold_first (is_typed n a) (converts (ty_of a) t) h)
  form_effects_scalar (x.discard a) s t n k h = effects_scalar a n k (both_hold_first (is_typed n a) (is_none t) h)
  form_effects_scalar (x.chain a links) s t n k h =
      let rest = both_hold_second (is_typed n a) (has_links links && links_fit n (ty_of a) links t) h in
      let fit = both_hold_second (has_links links) (links_fit n (ty_of a) links t) rest in
      scalar_more (links_in (scope_for n) links a [] s (type_of a) (value_in (scope_for n) a k) k).temps (holding (type_or_int t) (typed s t (x.chain a links)))
      (links_in_scalar links n (ty_of a) t a [] s (type_of a) (value_in (scope_for n) a k) k (type_own a) fit (value_scalar a n k (both_hold_first (is_typed n a) (has_links links && links_fit n (ty_of a) links t) h)))
      (links_scalar n links (ty_of a) t (both_hold_first (has_links links) (links_fit n (ty_of a) links t) rest) fit)
  form_effects_scalar (x.logical op a others) s t n k h =
      let first = both_hold_first (is_typed n a && is_scalar (ty_of a)) ((has_operands others && operands_fit n others) && same_types t r.int) h in
      let rest = both_hold_first (has_operands others && operands_fit n others) (same_types t r.int) (both_hold_second (is_typed n a && is_scalar (ty_of a)) ((has_operands others && operands_fit n others) && same_types t r.int) h) in
      let v = value_in (scope_for n) a k in
      operands_scalar others n op (past k v.temps) (started (typed s t (x.logical op a others)) (past k v.temps) (type_of a) s v) k (both_hold_second (has_operands others) (operands_fit n others) rest)
      (scalar_more v.temps (holding int (typed s t (x.logical op a others))) (value_scalar a n k (both_hold_first (is_typed n a) (is_scalar (ty_of a)) first)) tt)
  form_effects_scalar (x.choice a b d) s t n k h =
      let first = both_hold_first (is_typed n a && is_scalar (ty_of a)) ((is_typed n b && same_types (ty_of b) t) && ((is_typed n d && same_types (ty_of d) t) && is_arm t)) h in
      let second = both_hold_second (is_typed n a && is_scalar (ty_of a)) ((is_typed n b && same_types (ty_of b) t) && ((is_typed n d && same_types (ty_of d) t) && is_arm t)) h in
      let of_b = both_hold_first (is_typed n b && same_types (ty_of b) t) ((is_typed n d && same_types (ty_of d) t) && is_arm t) second in
      let third = both_hold_second (is_typed n b && same_types (ty_of b) t) ((is_typed n d && same_types (ty_of d) t) && is_arm t) second in
      let v = value_in (scope_for n) a k in
      let y = effects_in (scope_for n) b (past k v.temps) in
      let z = effects_in (scope_for n) d (past (past k v.temps) y.temps) in
      scalar_both ((v.temps ++ []) ++ y.temps) z.temps
      (scalar_both (v.temps ++ []) y.temps (scalar_both v.temps [] (value_scalar a n k (both_hold_first (is_typed n a) (is_scalar (ty_of a)) first)) tt) (effects_scalar b n (past k v.temps) (both_hold_first (is_typed n b) (same_types (ty_of b) t) of_b)))
      (effects_scalar d n (past (past k v.temps) y.temps) (both_hold_first (is_typed n d) (same_types (ty_of d) t) (both_hold_first (is_typed n d && same_types (ty_of d) t) (is_arm t) third)))
  form_effects_scalar (x.assign p a) s t n k h = (assign_scalar false p a (place_scalar p) (value_scalar a) (object_scalar a) t n k h).temps
  form_effects_scalar (x.compound p at step a) s t n k h = compound_scalar false p step a (place_scalar p) (value_scalar a) at t n k h
  form_effects_scalar (x.step p at back postfix) s t n k h = let b = step_place p (place_scalar p) back postfix t n k h in scalar_both (place_in (scope_for n) p k).temps [] b.1.temps tt
  form_effects_scalar (x.call g es) s t n k h =
      let c = call_shape (slice_get n.signatures g.0) es t (both_hold_second (all_typed n es) (call_fits (slice_get n.signatures g.0) es t) h) in
      scalar_both (arguments_in (scope_for n) es k).temps [] (arguments_scalar es n c.params k (both_hold_first (all_typed n es) (call_fits (slice_get n.signatures g.0) es t) h) c.fit) tt

  pub object_scalar : (e : ExprTree) (n : Names) (k : ℕ) → is_typed n e ≡ true → PlaceScalar (type_or_int (ty_of e)) (object_in (scope_for n) e k)
  object_scalar (typed s t form) n k h = form_object_scalar form s t n k h

  form_object_scalar : (form : FormTree) (s : Span) (t : Option VarTy) (n : Names) (k : ℕ) → form_fits n form t ≡ true → PlaceScalar (type_or_int t) (form_object (scope_for n) form s t k)
  form_object_scalar (x.read p) s t n k h =
      let rest = both_hold_second (place_fits n p) (same_types (place_type n p) t && is_value t) h in
      let some = value_some t (both_hold_second (same_types (place_type n p) t) (is_value t) rest) in
      subst (λ z. PlaceScalar z (place_in (scope_for n) p k)) (sym (ap type_or_int some.1))
      (place_scalar p n k some.0 (both_hold_first (place_fits n p) (same_types (place_type n p) t && is_value t) h) (same_place (place_type n p) t some.0 (both_hold_first (same_types (place_type n p) t) (is_value t) rest) some.1))
  form_object_scalar (x.assign p a) s t n k h = assign_scalar true p a (place_scalar p) (value_scalar a) (object_scalar a) t n k h
  form_object_scalar (x.constant z) s t n k h = record { ty = refl; temps = tt; through = tt }
  form_object_scalar x.null s t n k h = record { ty = refl; temps = tt; through = tt }
  form_object_scalar (x.decay p) s t n k h = record { ty = refl; temps = tt; through = tt }
  form_object_scalar (x.address p) s t n k h = record { ty = refl; temps = tt; through = tt }
  form_object_scalar (x.unary op a) s t n k h = record { ty = refl; temps = tt; through = tt }
  form_object_scalar (x.convert a) s t n k h = record { ty = refl; temps = tt; through = tt }
  form_object_scalar (x.discard a) s t n k h = record { ty = refl; temps = tt; through = tt }
  form_object_scalar (x.chain a links) s t n k h = record { ty = refl; temps = tt; through = tt }
  form_object_scalar (x.logical op a others) s t n k h = record { ty = refl; temps = tt; through = tt }
  form_object_scalar (x.choice a b d) s t n k h = record { ty = refl; temps = tt; through = tt }
  form_object_scalar (x.compound p at step a) s t n k h = record { ty = refl; temps = tt; through = tt }
  form_object_scalar (x.step p at back postfix) s t n k h = record { ty = refl; temps = tt; through = tt }
  form_object_scalar (x.call g es) s t n k h = record { ty = refl; temps = tt; through = tt }

  links_in_scalar : (links : LinkTrees) (n : Names) (o t : Option VarTy) (first : ExprTree) (before : List LinkTree) (s : Span) (ty : VarTy) (far : Lowered) (k : ℕ) → ty ≡ type_or_int o → links_fit n o links t ≡ true → AreScalar far.temps → AreScalar (links_in (scope_for n) links first before s ty far k).temps
  links_in_scalar no_links n o t first before s ty far k own h g = g
  links_in_scalar (link_and (link at to step ex) rest) n o t first before s ty far k own h g =
      let more = both_hold_second (is_typed n ex) (same_types (r.stepped o step (ty_of ex)) (Some to) && links_fit n (Some to) rest t) h in
      let is = equal_options (r.stepped o step (ty_of ex)) (Some to) (both_hold_first (same_types (r.stepped o step (ty_of ex)) (Some to)) (links_fit n (Some to) rest t) more) in
      let ready = held_if (not (takes_left_first step) || not (is_pure ex)) k (holding ty (chain_so_far first before s ty)) far in
      links_in_scalar rest n (Some to) t first (before ++ link at to step ex ∷ []) at to (linked ty step at ready (value_in (scope_for n) ex (past k ready.temps))) k refl (both_hold_second (same_types (r.stepped o step (ty_of ex)) (Some to)) (links_fit n (Some to) rest t) more)
      (scalar_both ready.temps (value_in (scope_for n) ex (past k ready.temps)).temps (held_scalar (not (takes_left_first step) || not (is_pure ex)) k (holding ty (chain_so_far first before s ty)) far g (subst Scalar (sym own) (own_scalar o (link_first o (ty_of ex) step to is))))
      (value_scalar ex n (past k ready.temps) (both_hold_first (is_typed n ex) (same_types (r.stepped o step (ty_of ex)) (Some to) && links_fit n (Some to) rest t) h)))

  operands_scalar : (operands : OperandTrees) (n : Names) (op : LogicalOp) (j : ℕ) (far : Effects) (k : ℕ) → operands_fit n operands ≡ true → AreScalar far.temps → AreScalar (operands_in (scope_for n) operands op j far k).temps
  operands_scalar no_operands n op j far k h g = g
  operands_scalar (operand_and (operand s a) rest) n op j far k h g =
      let v = value_in (scope_for n) a (past k far.temps) in
      operands_scalar rest n op j (with_operand op j (type_of a) s far v) k (both_hold_second (is_typed n a && is_scalar (ty_of a)) (operands_fit n rest) h)
      (scalar_both far.temps v.temps g (value_scalar a n (past k far.temps) (both_hold_first (is_typed n a) (is_scalar (ty_of a)) (both_hold_first (is_typed n a && is_scalar (ty_of a)) (operands_fit n rest) h))))

  arguments_scalar : (es : ExprTrees) (n : Names) (ps : List Param) (k : ℕ) → all_typed n es ≡ true → arguments_fit ps es ≡ true → AreScalar (arguments_in (scope_for n) es k).temps
  arguments_scalar no_exprs n ps k h g = tt
  arguments_scalar (expr_and a rest) n [] k h g = false_not_true g
  arguments_scalar (expr_and a rest) n (p ∷ ps) k h g =
      let v = held_if (not (are_pure rest)) k (holding (type_of a) a) (value_in (scope_for n) a k) in
      scalar_both v.temps (arguments_in (scope_for n) rest (past k v.temps)).temps
      (held_scalar (not (are_pure rest)) k (holding (type_of a) a) (value_in (scope_for n) a k) (value_scalar a n k (both_hold_first (is_typed n a) (all_typed n rest) h)) (argument_scalar a p.kind (both_hold_first (same_types (ty_of a) (Some (param_type p.kind))) (arguments_fit ps rest) g)))
      (arguments_scalar rest n ps (past k v.temps) (both_hold_second (is_typed n a) (all_typed n rest) h) (both_hold_second (same_types (ty_of a) (Some (param_type p.kind))) (arguments_fit ps rest) g))

  place_scalar : (p : PlaceTree) (n : Names) (k : ℕ) (w : VarTy) → place_fits n p ≡ true → place_type n p ≡ Some w → PlaceScalar w (place_in (scope_for n) p k)
  place_scalar (place root steps) n k w h is =
      let b = steps_some n.structs (root_type n root) steps w is in
      steps_scalar steps n root [] (root_in (scope_for n) root k) k b.0 w (both_hold_second (root_fits n root) (steps_fit n steps) h) (subst (λ z. steps_type n.structs z steps ≡ Some w) b.1 is) (root_in_scalar root n k b.0 (both_hold_first (root_fits n root) (steps_fit n steps) h) b.1)

  root_in_scalar : (root : RootTree) (n : Names) (k : ℕ) (a : VarTy) → root_fits n root ≡ true → root_type n root ≡ Some a → PlaceScalar a (root_in (scope_for n) root k)
  root_in_scalar (x.local v) n k a h is = record { ty = get_or_from_slice_get (map (λ (z : Var). z.ty) n.vars) v.0 a (Int i.Int) (get_map (λ (z : Var). z.ty) n.vars v.0 ∙ is); temps = tt; through = tt }
  root_in_scalar (x.global v) n k a h is = record { ty = get_or_from_slice_get (map (λ (z : TypedGlobal). z.var.ty) n.globals) v.0 a (Int i.Int) (get_map (λ (z : TypedGlobal). z.var.ty) n.globals v.0 ∙ is); temps = tt; through = tt }
  root_in_scalar (x.deref e s) n k a h is = behind_scalar s e (value_in (scope_for n) e k) a is (value_scalar e n k h)
  root_in_scalar (x.assigned e) n k a h is = subst (λ z. PlaceScalar z (object_in (scope_for n) e k)) (assigned_some e a is) (object_scalar e n k h)

  steps_scalar : (steps : StepTrees) (n : Names) (root : RootTree) (before : List StepTree) (far : LoweredPlace) (k : ℕ) (a w : VarTy) → steps_fit n steps ≡ true → steps_type n.structs (Some a) steps ≡ Some w → PlaceScalar a far → PlaceScalar w (steps_in (scope_for n) steps root before far k)
  steps_scalar no_steps n root before far k a w h is g = subst (λ z. PlaceScalar z far) (some_same a w is) g
  steps_scalar (step_and (x.field j) rest) n root before far k a w h is g =
      let b = steps_some n.structs (f.field_type n.structs (Some a) j) rest w is in
      let o = field_of_struct n.structs a j b.0 b.1 in
      steps_scalar rest n root (before ++ x.field j ∷ []) (field_in (scope_for n) j far) k b.0 w h (subst (λ z. steps_type n.structs z rest ≡ Some w) b.1 is)
      (record { ty = ap (λ z. field_type n.structs z j) (g.ty ∙ o.is) ∙ o.type; temps = g.temps; through = g.through })
  steps_scalar (step_and (x.item ex s) rest) n root before far k a w h is g =
      let b = steps_some n.structs (item_type (Some a) (integer_of (ty_of ex))) rest w is in
      let first = decayed s (place root (x.step_trees before)) far in
      let ty = decayed_type far.fixed far.ty in
      let base = held_if (not (is_pure ex)) k (holding ty first) (record { stmts = far.stmts; value = t.decay far.place; temps = far.temps }) in
      steps_scalar rest n root (before ++ x.item ex s ∷ []) (element_place s first ex ty base (value_in (scope_for n) ex (past k base.temps))) k b.0 w (both_hold_second (is_typed n ex) (steps_fit n rest) h) (subst (λ z. steps_type n.structs z rest ≡ Some w) b.1 is)
      (record {
        ty = ap (λ z. pointee_type (decayed_type far.fixed z)) g.ty ∙ element_kind far.fixed a b.0 (ty_of ex) b.1;
        temps = scalar_both base.temps (value_in (scope_for n) ex (past k base.temps)).temps (held_scalar (not (is_pure ex)) k (holding ty first) (record { stmts = far.stmts; value = t.decay far.place; temps = far.temps }) g.temps tt) (value_scalar ex n (past k base.temps) (both_hold_first (is_typed n ex) (steps_fit n rest) h));
        through = tt;
      })
