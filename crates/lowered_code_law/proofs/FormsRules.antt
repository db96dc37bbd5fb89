-- What the rules of types say of expressions: of which types their parts are, and which are structs.
use Rattle.std.proofs.Common.{◌≡◌, ◌∙◌, ℕ, ℤ, refl, ap, sym, subst, Bool, true, false, Option, Some, None, length, if◌then◌else◌}
use Rattle.std.specs.Prelude.{◌&&◌, not, slice_get, option_map, is_none}
use Rattle.pt_base.specs.declared.int_type.IntType.{IntType}
use Rattle.pt_base.specs.declared.span.Span.{Span}
use Rattle.pt_base.proofs.Booleans.{both_hold_first, both_hold_second, false_not_true}
use Rattle.pt_tree.specs.declared.signature.Elem.{Elem}
use Rattle.pt_tree.specs.declared.signature.Elem.TheVariants as e
use Rattle.pt_tree.specs.declared.signature.Signature.{Signature}
use Rattle.typed_tree.specs.declared.types.VarTy.{VarTy}
use Rattle.typed_tree.specs.declared.types.VarTy.TheVariants.{Int, Struct, Array, Pointer}
use Rattle.typed_tree.specs.declared.link.LinkStep.{LinkStep}
use Rattle.typed_tree.specs.ExpressionTree as src
use Rattle.typed_tree.specs.ExpressionTree.{typed, FormTree, ExprTrees, no_exprs, expr_and, LinkTree, LinkTrees, no_links, link_and, link, OperandTrees, no_operands, operand_and, operand, RootTree, StepTree, StepTrees, no_steps, step_and, step_trees}
use Rattle.typed_tree.specs.TypeTests.{same_types, both_elem, integer_of, pointee_of, element_of, item_of, is_scalar, is_value, type_of_elem}
use Rattle.typed_tree.specs.TypeRules as r
use Rattle.typed_tree.specs.TypeRules.{unary_fits, converts, promoted_value, is_arm}
use Rattle.typed_tree.specs.WellFormedExpression as f
use Rattle.typed_tree.specs.WellFormedExpression.{Names, is_typed, form_fits, all_typed, links_fit, operands_fit, place_fits, root_fits, steps_fit, ty_of, root_type, step_type, steps_type, place_type, field_type, item_type, has_links, has_operands, is_addressed, is_written, keeps_const, place_const, is_assign, assigned_type, is_named, ends_in_field, is_object}
use Rattle.source_meaning.specs.Expressions.{type_or_int, type_of}
use Rattle.lowering.specs.Expressions.{is_struct}
use Rattle.typed_tree.proofs.SameTypes.{equal_elems, equal_options}
use Rattle.lowered_code_law.proofs.FormsSteps.{convert_known, one_type, step_operands, step_scalar, unary_operand}

-- ---- types of expressions

pub type_is : (a : src.ExprTree) (ty : VarTy) → ty_of a ≡ Some ty → type_of a ≡ ty
type_is (typed s o form) ty h = ap type_or_int h

pub no_struct : (o : Option VarTy) → is_scalar o ≡ true → is_struct o ≡ false
no_struct (Some (Int a)) h = refl
no_struct (Some (Pointer a g)) h = refl
no_struct None h = false_not_true h
no_struct (Some (Struct n)) h = false_not_true h
no_struct (Some (Array a n)) h = false_not_true h

pub value_scalar : (ty : VarTy) → is_value (Some ty) ≡ true → is_struct (Some ty) ≡ false → is_scalar (Some ty) ≡ true
value_scalar (Int a) h k = refl
value_scalar (Pointer a g) h k = refl
value_scalar (Struct n) h k = false_not_true (sym k)
value_scalar (Array a n) h k = false_not_true h

pub record Typed (o : Option VarTy) : Type 0 where
  pub type : VarTy
  pub is : o ≡ Some type

pub scalar_type : (o : Option VarTy) → is_scalar o ≡ true → Typed o
scalar_type None h = false_not_true h
scalar_type (Some ty) h = record { type = ty; is = refl }

pub value_type : (o : Option VarTy) → is_value o ≡ true → Typed o
value_type None h = false_not_true h
value_type (Some ty) h = record { type = ty; is = refl }

pub record ArrayOf (p t : Option VarTy) : Type 0 where
  pub elem : Elem
  pub count : ℕ
  pub fixed : Bool
  pub from : p ≡ Some (Array elem count)
  pub to : t ≡ Some (Pointer elem fixed)

pub array_of : (p t : Option VarTy) → both_elem (item_of p) (pointee_of t) ≡ true → ArrayOf p t
array_of (Some (Array a count)) (Some (Pointer b fixed)) h =
    record { elem = a; count = count; fixed = fixed; from = refl; to = ap (λ z. Some (Pointer z fixed)) (sym (equal_elems a b h)) }
array_of None t h = false_not_true h
array_of (Some (Int a)) t h = false_not_true h
array_of (Some (Struct n)) t h = false_not_true h
array_of (Some (Pointer a g)) t h = false_not_true h
array_of (Some (Array a count)) None h = false_not_true h
array_of (Some (Array a count)) (Some (Int b)) h = false_not_true h
array_of (Some (Array a count)) (Some (Struct n)) h = false_not_true h
array_of (Some (Array a count)) (Some (Array b n)) h = false_not_true h

pub record ObjectOf (p t : Option VarTy) : Type 0 where
  pub elem : Elem
  pub fixed : Bool
  pub from : p ≡ Some (type_of_elem elem)
  pub to : t ≡ Some (Pointer elem fixed)

pub object_of : (p t : Option VarTy) → both_elem (element_of p) (pointee_of t) ≡ true → ObjectOf p t
object_of (Some (Int a)) (Some (Pointer b fixed)) h = record { elem = e.Int a; fixed = fixed; from = refl; to = ap (λ z. Some (Pointer z fixed)) (sym (equal_elems (e.Int a) b h)) }
object_of (Some (Struct a)) (Some (Pointer b fixed)) h = record { elem = e.Struct a; fixed = fixed; from = refl; to = ap (λ z. Some (Pointer z fixed)) (sym (equal_elems (e.Struct a) b h)) }
object_of None t h = false_not_true h
object_of (Some (Array a n)) t h = false_not_true h
object_of (Some (Pointer a g)) t h = false_not_true h
object_of (Some (Int a)) None h = false_not_true h
object_of (Some (Int a)) (Some (Int b)) h = false_not_true h
object_of (Some (Int a)) (Some (Struct n)) h = false_not_true h
object_of (Some (Int a)) (Some (Array b n)) h = false_not_true h
object_of (Some (Struct a)) None h = false_not_true h
object_of (Some (Struct a)) (Some (Int b)) h = false_not_true h
object_of (Some (Struct a)) (Some (Struct n)) h = false_not_true h
object_of (Some (Struct a)) (Some (Array b n)) h = false_not_true h

pub some_type : (a : src.ExprTree) → is_scalar (ty_of a) ≡ true → ty_of a ≡ Some (type_of a)
some_type (typed s (Some ty) form) h = refl
some_type (typed s None form) h = false_not_true h

-- ---- choices

pub arm_no_struct : (t : Option VarTy) → is_arm t ≡ true → is_struct t ≡ false
arm_no_struct None h = refl
arm_no_struct (Some (Int a)) h = refl
arm_no_struct (Some (Pointer a g)) h = refl
arm_no_struct (Some (Struct n)) h = false_not_true h
arm_no_struct (Some (Array a n)) h = false_not_true h

-- ---- chains

pub links_scalar : (n : Names) (a : Option VarTy) (ls : LinkTrees) (t : Option VarTy) → is_scalar a ≡ true → links_fit n a ls t ≡ true → is_scalar t ≡ true
links_scalar n a no_links t k h = subst (λ z. is_scalar z ≡ true) (equal_options a t h) k
links_scalar n a (link_and (link s ty op b) rest) t k h =
    let own = both_hold_second (is_typed n b) (same_types (r.stepped a op (ty_of b)) (Some ty) && links_fit n (Some ty) rest t) h in
    links_scalar n (Some ty) rest t (step_scalar op a (ty_of b) ty (equal_options (r.stepped a op (ty_of b)) (Some ty) (both_hold_first (same_types (r.stepped a op (ty_of b)) (Some ty)) (links_fit n (Some ty) rest t) own)))
    (both_hold_second (same_types (r.stepped a op (ty_of b)) (Some ty)) (links_fit n (Some ty) rest t) own)

-- the first operand of a chain, and the chain, are integers or pointers
pub chain_scalar : (n : Names) (a : Option VarTy) (ls : LinkTrees) (t : Option VarTy) → has_links ls ≡ true → links_fit n a ls t ≡ true → (is_scalar a ≡ true) × (is_scalar t ≡ true)
chain_scalar n a no_links t k h = false_not_true k
chain_scalar n a (link_and (link s ty op b) rest) t k h =
    let own = both_hold_second (is_typed n b) (same_types (r.stepped a op (ty_of b)) (Some ty) && links_fit n (Some ty) rest t) h in
    let is = equal_options (r.stepped a op (ty_of b)) (Some ty) (both_hold_first (same_types (r.stepped a op (ty_of b)) (Some ty)) (links_fit n (Some ty) rest t) own) in
    let o = step_operands op a (ty_of b) ty is in (
      subst (λ z. is_scalar z ≡ true) (sym o.from) o.left_scalar,
      links_scalar n (Some ty) rest t (step_scalar op a (ty_of b) ty is) (both_hold_second (same_types (r.stepped a op (ty_of b)) (Some ty)) (links_fit n (Some ty) rest t) own),
    )

-- ---- places

pub record ElementOf (o : Option VarTy) (index : Option IntType) (u : VarTy) : Type 0 where
  pub elem : Elem
  pub count : ℕ
  pub by : IntType
  pub array : o ≡ Some (Array elem count)
  pub number : index ≡ Some by
  pub is : type_of_elem elem ≡ u

pub element_of_array : (o : Option VarTy) (index : Option IntType) (u : VarTy) → item_type o index ≡ Some u → ElementOf o index u
element_of_array o None u h = cc
element_of_array None (Some by) u h = cc
element_of_array (Some (Int a)) (Some by) u h = cc
element_of_array (Some (Struct m)) (Some by) u h = cc
element_of_array (Some (Pointer a g)) (Some by) u h = cc
element_of_array (Some (Array elem count)) (Some by) u h = record { elem = elem; count = count; by = by; array = refl; number = refl; is = one_type (type_of_elem elem) u h }

pub record PointeeOf (o : Option VarTy) (u : VarTy) : Type 0 where
  pub elem : Elem
  pub fixed : Bool
  pub from : o ≡ Some (Pointer elem fixed)
  pub is : type_of_elem elem ≡ u

pub pointee_of_pointer : (o : Option VarTy) (u : VarTy) → option_map type_of_elem (pointee_of o) ≡ Some u → PointeeOf o u
pointee_of_pointer (Some (Pointer elem g)) u h = record { elem = elem; fixed = g; from = refl; is = one_type (type_of_elem elem) u h }
pointee_of_pointer None u h = cc
pointee_of_pointer (Some (Int a)) u h = cc
pointee_of_pointer (Some (Struct m)) u h = cc
pointee_of_pointer (Some (Array a m)) u h = cc

-- the value of an assignment as an object is one of structs
pub assigned_struct : (a : src.ExprTree) (u : VarTy) → assigned_type a ≡ Some u → (ty_of a ≡ Some u) × (is_struct (Some u) ≡ true)
assigned_struct (typed s o form) u h = go (is_assign form) (f.is_struct o) refl h
  where
    struct_is : (o : Option VarTy) → f.is_struct o ≡ true → o ≡ Some u → is_struct (Some u) ≡ true
    struct_is (Some (Struct m)) k e = subst (λ z. is_struct z ≡ true) e refl
    struct_is None k e = false_not_true k
    struct_is (Some (Int a)) k e = false_not_true k
    struct_is (Some (Array a m)) k e = false_not_true k
    struct_is (Some (Pointer a g)) k e = false_not_true k

    go : (b d : Bool) → f.is_struct o ≡ d → (if b && d then o else None) ≡ Some u → (o ≡ Some u) × (is_struct (Some u) ≡ true)
    go true true k e = (e, struct_is o k e)
    go false d k e = cc
    go true false k e = cc

-- ---- assignments

-- an assignment, by its place and its right side
pub record AssignRules (n : Names) (p : src.PlaceTree) (a : src.ExprTree) (t : Option VarTy) : Type 0 where
  pub fits : place_fits n p ≡ true
  pub type : VarTy
  pub is : t ≡ Some type
  pub place : place_type n p ≡ Some type
  pub value : is_value (Some type) ≡ true
  pub right : is_typed n a ≡ true
  pub same : ty_of a ≡ Some type

pub assign_rules : (n : Names) (p : src.PlaceTree) (a : src.ExprTree) (t : Option VarTy) → form_fits n (src.assign p a) t ≡ true → AssignRules n p a t
assign_rules n p a t h =
    let first = both_hold_first (place_fits n p && is_written n p) ((same_types (place_type n p) t && is_value t) && (is_typed n a && same_types (ty_of a) t)) h in
    let rest = both_hold_second (place_fits n p && is_written n p) ((same_types (place_type n p) t && is_value t) && (is_typed n a && same_types (ty_of a) t)) h in
    let types = both_hold_first (same_types (place_type n p) t && is_value t) (is_typed n a && same_types (ty_of a) t) rest in
    let right = both_hold_second (same_types (place_type n p) t && is_value t) (is_typed n a && same_types (ty_of a) t) rest in
    let v = value_type t (both_hold_second (same_types (place_type n p) t) (is_value t) types) in
    record {
      fits = both_hold_first (place_fits n p) (is_written n p) first;
      type = v.type;
      is = v.is;
      place = equal_options (place_type n p) t (both_hold_first (same_types (place_type n p) t) (is_value t) types) ∙ v.is;
      value = subst (λ z. is_value z ≡ true) v.is (both_hold_second (same_types (place_type n p) t) (is_value t) types);
      right = both_hold_first (is_typed n a) (same_types (ty_of a) t) right;
      same = equal_options (ty_of a) t (both_hold_second (is_typed n a) (same_types (ty_of a) t) right) ∙ v.is;
    }

-- a compound assignment, and what it assigns to, is an integer or a pointer
pub stored_scalar : (u t : Option VarTy) → converts u t ≡ true → is_scalar t ≡ true
stored_scalar u t h = (convert_known 0 u t h).1

-- a compound assignment
pub record CompoundRules (n : Names) (p : src.PlaceTree) (step : LinkStep) (a : src.ExprTree) (t : Option VarTy) : Type 0 where
  pub fits : place_fits n p ≡ true
  pub type : VarTy
  pub is : t ≡ Some type
  pub place : place_type n p ≡ Some type
  pub scalar : is_scalar (Some type) ≡ true
  pub right : is_typed n a ≡ true
  pub comp : r.is_compound step ≡ true
  pub stores : converts (r.stepped (promoted_value (Some type)) step (ty_of a)) (Some type) ≡ true

pub compound_rules : (n : Names) (p : src.PlaceTree) (at : Span) (step : LinkStep) (a : src.ExprTree) (t : Option VarTy) → form_fits n (src.compound p at step a) t ≡ true → CompoundRules n p step a t
compound_rules n p at step a t h =
    let first = both_hold_first (place_fits n p && is_written n p) (same_types (place_type n p) t && (is_typed n a && (r.is_compound step && converts (r.stepped (promoted_value t) step (ty_of a)) t))) h in
    let rest = both_hold_second (place_fits n p && is_written n p) (same_types (place_type n p) t && (is_typed n a && (r.is_compound step && converts (r.stepped (promoted_value t) step (ty_of a)) t))) h in
    let right = both_hold_second (same_types (place_type n p) t) (is_typed n a && (r.is_compound step && converts (r.stepped (promoted_value t) step (ty_of a)) t)) rest in
    let last = both_hold_second (is_typed n a) (r.is_compound step && converts (r.stepped (promoted_value t) step (ty_of a)) t) right in
    let stores = both_hold_second (r.is_compound step) (converts (r.stepped (promoted_value t) step (ty_of a)) t) last in
    let scalar = stored_scalar (r.stepped (promoted_value t) step (ty_of a)) t stores in
    let v = scalar_type t scalar in
    record {
      fits = both_hold_first (place_fits n p) (is_written n p) first;
      type = v.type;
      is = v.is;
      place = equal_options (place_type n p) t (both_hold_first (same_types (place_type n p) t) (is_typed n a && (r.is_compound step && converts (r.stepped (promoted_value t) step (ty_of a)) t)) rest) ∙ v.is;
      scalar = subst (λ z. is_scalar z ≡ true) v.is scalar;
      right = both_hold_first (is_typed n a) (r.is_compound step && converts (r.stepped (promoted_value t) step (ty_of a)) t) right;
      comp = both_hold_first (r.is_compound step) (converts (r.stepped (promoted_value t) step (ty_of a)) t) last;
      stores = subst (λ z. converts (r.stepped (promoted_value z) step (ty_of a)) z ≡ true) v.is stores;
    }

-- `++` and `--`
pub record CountRules (n : Names) (p : src.PlaceTree) (t : Option VarTy) : Type 0 where
  pub fits : place_fits n p ≡ true
  pub type : VarTy
  pub is : t ≡ Some type
  pub place : place_type n p ≡ Some type
  pub scalar : is_scalar (Some type) ≡ true

pub count_rules : (n : Names) (p : src.PlaceTree) (at : Span) (back postfix : Bool) (t : Option VarTy) → form_fits n (src.step p at back postfix) t ≡ true → CountRules n p t
count_rules n p at back postfix t h =
    let first = both_hold_first (place_fits n p && is_written n p) (same_types (place_type n p) t && is_scalar t) h in
    let rest = both_hold_second (place_fits n p && is_written n p) (same_types (place_type n p) t && is_scalar t) h in
    let scalar = both_hold_second (same_types (place_type n p) t) (is_scalar t) rest in
    let v = scalar_type t scalar in
    record {
      fits = both_hold_first (place_fits n p) (is_written n p) first;
      type = v.type;
      is = v.is;
      place = equal_options (place_type n p) t (both_hold_first (same_types (place_type n p) t) (is_scalar t) rest) ∙ v.is;
      scalar = subst (λ z. is_scalar z ≡ true) v.is scalar;
    }

-- ---- structs

-- what is no read and no assignment is no struct
abbrev pub is_object_form : FormTree → Bool
is_object_form (src.read p) = true
is_object_form (src.assign p a) = true
is_object_form _ = false

pub constant_no_struct : (v : ℤ) (t : Option VarTy) → f.constant_fits v (integer_of t) ≡ true → is_struct t ≡ false
constant_no_struct v (Some (Int a)) h = refl
constant_no_struct v (Some (Pointer a g)) h = refl
constant_no_struct v None h = refl
constant_no_struct v (Some (Struct m)) h = false_not_true h
constant_no_struct v (Some (Array a m)) h = refl

pub pointer_no_struct : (n : ℕ) (t : Option VarTy) → f.is_elem n (pointee_of t) ≡ true → is_struct t ≡ false
pointer_no_struct n (Some (Pointer a g)) h = refl
pointer_no_struct n (Some (Int a)) h = refl
pointer_no_struct n None h = refl
pointer_no_struct n (Some (Struct m)) h = false_not_true h
pointer_no_struct n (Some (Array a m)) h = refl

pub both_no_struct : (o : Option Elem) (t : Option VarTy) → both_elem o (pointee_of t) ≡ true → is_struct t ≡ false
both_no_struct o (Some (Pointer a g)) h = refl
both_no_struct o (Some (Int a)) h = refl
both_no_struct o None h = refl
both_no_struct None (Some (Struct m)) h = false_not_true h
both_no_struct (Some a) (Some (Struct m)) h = false_not_true h
both_no_struct o (Some (Array a m)) h = refl

pub none_no_struct : (t : Option VarTy) → is_none t ≡ true → is_struct t ≡ false
none_no_struct None h = refl
none_no_struct (Some ty) h = false_not_true h

pub result_no_struct : (o : Option Signature) (arguments : ExprTrees) (t : Option VarTy) → f.call_fits o arguments t ≡ true → is_struct t ≡ false
result_no_struct None arguments t h = false_not_true h
result_no_struct (Some s) arguments t h =
    subst (λ z. is_struct z ≡ false) (sym (equal_options t (option_map Int s.result) (both_hold_second (f.arguments_fit s.params arguments) (same_types t (option_map Int s.result)) (both_hold_second (not (f.is_main s)) (f.arguments_fit s.params arguments && same_types t (option_map Int s.result)) h)))) (int_no_struct s.result)
  where
    int_no_struct : (o : Option IntType) → is_struct (option_map Int o) ≡ false
    int_no_struct None = refl
    int_no_struct (Some a) = refl

pub other_form : (n : Names) (form : FormTree) (t : Option VarTy) → is_object_form form ≡ false → form_fits n form t ≡ true → is_struct t ≡ false
other_form n (src.read p) ty o h = false_not_true (sym o)
other_form n (src.assign p a) ty o h = false_not_true (sym o)
other_form n (src.constant v) ty o h = constant_no_struct v ty h
other_form n src.null ty o h = pointer_no_struct (length n.structs) ty h
other_form n (src.decay p) ty o h = both_no_struct (item_of (place_type n p)) ty (both_hold_first (both_elem (item_of (place_type n p)) (pointee_of ty)) (keeps_const (place_const n p) ty) (both_hold_second (place_fits n p) (both_elem (item_of (place_type n p)) (pointee_of ty) && keeps_const (place_const n p) ty) h))
other_form n (src.address p) ty o h =
    let rest = both_hold_second (place_fits n p) (is_addressed p && (both_elem (element_of (place_type n p)) (pointee_of ty) && keeps_const (place_const n p) ty)) h in
    both_no_struct (element_of (place_type n p)) ty (both_hold_first (both_elem (element_of (place_type n p)) (pointee_of ty)) (keeps_const (place_const n p) ty) (both_hold_second (is_addressed p) (both_elem (element_of (place_type n p)) (pointee_of ty) && keeps_const (place_const n p) ty) rest))
other_form n (src.unary op a) ty o h = no_struct ty (unary_operand op (ty_of a) ty (both_hold_second (is_typed n a) (unary_fits op (ty_of a) ty) h)).1
other_form n (src.convert a) ty o h = no_struct ty (convert_known 0 (ty_of a) ty (both_hold_second (is_typed n a) (converts (ty_of a) ty) h)).1
other_form n (src.discard a) ty o h = none_no_struct ty (both_hold_second (is_typed n a) (is_none ty) h)
other_form n (src.chain a ls) ty o h =
    let rest = both_hold_second (is_typed n a) (has_links ls && links_fit n (ty_of a) ls ty) h in
    no_struct ty (chain_scalar n (ty_of a) ls ty (both_hold_first (has_links ls) (links_fit n (ty_of a) ls ty) rest) (both_hold_second (has_links ls) (links_fit n (ty_of a) ls ty) rest)).1
other_form n (src.logical op a os) ty o h =
    let is = equal_options ty r.int (both_hold_second (has_operands os && operands_fit n os) (same_types ty r.int) (both_hold_second (is_typed n a && is_scalar (ty_of a)) ((has_operands os && operands_fit n os) && same_types ty r.int) h)) in
    subst (λ z. is_struct z ≡ false) (sym is) refl
other_form n (src.choice a b d) ty o h =
    let rest = both_hold_second (is_typed n a && is_scalar (ty_of a)) ((is_typed n b && same_types (ty_of b) ty) && ((is_typed n d && same_types (ty_of d) ty) && is_arm ty)) h in
    arm_no_struct ty (both_hold_second (is_typed n d && same_types (ty_of d) ty) (is_arm ty) (both_hold_second (is_typed n b && same_types (ty_of b) ty) ((is_typed n d && same_types (ty_of d) ty) && is_arm ty) rest))
other_form n (src.compound p at step a) ty o h = let k = compound_rules n p at step a ty h in no_struct ty (subst (λ z. is_scalar z ≡ true) (sym k.is) k.scalar)
other_form n (src.step p at back postfix) ty o h = let k = count_rules n p at back postfix ty h in no_struct ty (subst (λ z. is_scalar z ≡ true) (sym k.is) k.scalar)
other_form n (src.call g arguments) ty o h = result_no_struct (slice_get n.signatures g.0) arguments ty (both_hold_second (all_typed n arguments) (f.call_fits (slice_get n.signatures g.0) arguments ty) h)
