-- Which expressions are well formed: each number names an entry, each constant is in its range, and
-- each expression, place and operator has the type that the rules give it, its operands being
-- converted. What is const is not written, and no pointer forgets it.
use Rattle.std.specs.Prelude.{ℕ, ℤ, List, [], ◌∷◌, Option, None, Some, Bool, true, false, ◌&&◌, ◌||◌, not, if◌then◌else◌, nat_lt, slice_get, option_map, option_and_then, is_none, length, codes}
use Rattle.std.specs.Option.{option_map_or}
use Rattle.std.specs.Str.{bytes_eq}
use Rattle.pt_base.specs.declared.int_type.IntType.{IntType}
use Rattle.pt_int.specs.Conversion.{is_in_range}
use Rattle.pt_tree.specs.declared.signature.Elem.{Elem}
use Rattle.pt_tree.specs.declared.signature.Elem.TheVariants as e
use Rattle.pt_tree.specs.declared.signature.Param.{Param}
use Rattle.pt_tree.specs.declared.signature.ParamKind.{ParamKind}
use Rattle.pt_tree.specs.declared.signature.ParamKind.TheVariants as k
use Rattle.pt_tree.specs.declared.signature.Signature.{Signature}
use Rattle.typed_tree.specs.declared.types.VarTy.{VarTy}
use Rattle.typed_tree.specs.declared.types.VarTy.TheVariants.{Int, Struct, Pointer}
use Rattle.typed_tree.specs.declared.types.StructInfo.{StructInfo}
use Rattle.typed_tree.specs.declared.variable.Var.{Var}
use Rattle.typed_tree.specs.declared.variable.TypedGlobal.{TypedGlobal}
use Rattle.typed_tree.specs.ExpressionTree.{ExprTree, FormTree, ExprTrees, LinkTrees, OperandTrees, PlaceTree, RootTree, StepTree, StepTrees, typed, constant, null, read, decay, address, unary, convert, discard, chain, logical, choice, assign, compound, step, call, no_exprs, expr_and, link, no_links, link_and, operand, no_operands, operand_and, place, local, global, deref, assigned, field, item, no_steps, step_and}
use Rattle.typed_tree.specs.TypeTests.{same_types, both_elem, integer_of, pointee_of, points_to_const, element_of, item_of, type_of_elem, is_scalar, is_value}
use Rattle.typed_tree.specs.TypeRules.{int, stepped, is_compound, promoted_value, converts, unary_fits, is_arm}

-- what the numbers in a function name
pub record Names : Type 0 where
  pub structs : List StructInfo
  pub globals : List TypedGlobal
  pub signatures : List Signature
  pub vars : List Var

-- the type of an expression, None where it is void
abbrev pub ty_of : ExprTree → Option VarTy
ty_of (typed s t f) = t

-- the number is in the range of the type
abbrev pub constant_fits : ℤ → Option IntType → Bool
constant_fits v None = false
constant_fits v (Some t) = is_in_range t v

-- there is an element, and its struct is one of so many
abbrev pub is_elem : ℕ → Option Elem → Bool
is_elem structs None = false
is_elem structs (Some (e.Int t)) = true
is_elem structs (Some (e.Struct n)) = nat_lt n structs

abbrev pub is_assign : FormTree → Bool
is_assign (assign p a) = true
is_assign _ = false

abbrev pub is_struct : Option VarTy → Bool
is_struct (Some (Struct n)) = true
is_struct _ = false

-- the type of an assignment of structs, None of any other expression
abbrev pub assigned_type : ExprTree → Option VarTy
assigned_type (typed s t f) = if is_assign f && is_struct t then t else None

abbrev pub root_type : Names → RootTree → Option VarTy
root_type n (local v) = option_map (λ x. x.ty) (slice_get n.vars v.0)
root_type n (global g) = option_map (λ x. x.var.ty) (slice_get n.globals g.0)
root_type n (deref a s) = option_map type_of_elem (pointee_of (ty_of a))
root_type n (assigned a) = assigned_type a

-- the type of a field
abbrev pub field_type : List StructInfo → Option VarTy → ℕ → Option VarTy
field_type structs (Some (Struct n)) k = option_and_then (λ s. option_map (λ f. f.ty) (slice_get s.fields k)) (slice_get structs n)
field_type structs _ k = None

-- the type of an element, where the index is an integer
abbrev pub item_type : Option VarTy → Option IntType → Option VarTy
item_type a None = None
item_type a (Some t) = option_map type_of_elem (item_of a)

-- the type of a part of an object
abbrev pub step_type : List StructInfo → Option VarTy → StepTree → Option VarTy
step_type structs a (field k) = field_type structs a k
step_type structs a (item i s) = item_type a (integer_of (ty_of i))

abbrev pub steps_type : List StructInfo → Option VarTy → StepTrees → Option VarTy
steps_type structs a no_steps = a
steps_type structs a (step_and s rest) = steps_type structs (step_type structs a s) rest

-- the type of the object that a place designates; None where the place is none
abbrev pub place_type : Names → PlaceTree → Option VarTy
place_type n (place r ss) = steps_type n.structs (root_type n r) ss

-- a step dereferences a pointer
abbrev pub has_item : StepTrees → Bool
has_item no_steps = false
has_item (step_and (field k) rest) = has_item rest
has_item (step_and (item i s) rest) = true

-- an object that may be assigned: the value of an assignment is none (C99 6.5.16p3)
abbrev pub is_object : PlaceTree → Bool
is_object (place (local v) ss) = true
is_object (place (global g) ss) = true
is_object (place (deref a s) ss) = true
is_object (place (assigned a) ss) = has_item ss

abbrev pub is_named : RootTree → Bool
is_named (local v) = true
is_named (global g) = true
is_named (deref a s) = false
is_named (assigned a) = false

-- the last step is to a field; where there is none, the start counts
abbrev pub ends_in_field : Bool → StepTrees → Bool
ends_in_field start no_steps = start
ends_in_field start (step_and (field k) rest) = ends_in_field true rest
ends_in_field start (step_and (item i s) rest) = ends_in_field false rest

-- what & may stand before here: not *E or E1[E2], whose addresses are E and E1 + E2 (C99 6.5.3.2p3)
abbrev pub is_addressed : PlaceTree → Bool
is_addressed (place r ss) = is_object (place r ss) && ends_in_field (is_named r) ss

-- Where a place begins, the object is const: a const global is, and what a pointer to a const pointee
-- points to. A variable isn't, since the tree knows no const ones, nor is the value of an assignment.
abbrev pub root_const : Names → RootTree → Bool
root_const n (local v) = false
root_const n (global g) = option_map_or (λ x. x.fixed) (slice_get n.globals g.0) false
root_const n (deref a s) = points_to_const (ty_of a)
root_const n (assigned a) = false

-- an object is const, and so is each part of it
abbrev pub place_const : Names → PlaceTree → Bool
place_const n (place r ss) = root_const n r

-- a pointer to a const object knows that it is const; one to any object may say so
abbrev pub keeps_const : Bool → Option VarTy → Bool
keeps_const is_const t = not is_const || points_to_const t

-- what may be written: an object that isn't const (C99 6.5.16p2, 6.3.2.1p1)
abbrev pub is_written : Names → PlaceTree → Bool
is_written n p = is_object p && not (place_const n p)

abbrev pub has_links : LinkTrees → Bool
has_links no_links = false
has_links (link_and l rest) = true

abbrev pub has_operands : OperandTrees → Bool
has_operands no_operands = false
has_operands (operand_and o rest) = true

abbrev pub param_type : ParamKind → VarTy
param_type (k.Int t) = Int t
param_type (k.Ptr elem fixed) = Pointer elem fixed

-- one argument for each parameter, of its type
abbrev pub arguments_fit : List Param → ExprTrees → Bool
arguments_fit [] no_exprs = true
arguments_fit [] (expr_and a rest) = false
arguments_fit (p ∷ ps) no_exprs = false
arguments_fit (p ∷ ps) (expr_and a rest) = same_types (ty_of a) (Some (param_type p.kind)) && arguments_fit ps rest

abbrev pub is_main : Signature → Bool
is_main s = bytes_eq s.name (codes "main")

-- a call of this function, if there is one that isn't main
abbrev pub call_fits : Option Signature → ExprTrees → Option VarTy → Bool
call_fits None arguments t = false
call_fits (Some s) arguments t = not (is_main s) && (arguments_fit s.params arguments && same_types t (option_map Int s.result))

abbrev mutual
  pub is_typed : Names → ExprTree → Bool
  is_typed n (typed s t f) = form_fits n f t

  -- an expression of this form has this type
  pub form_fits : Names → FormTree → Option VarTy → Bool
  form_fits n (constant v) t = constant_fits v (integer_of t)
  form_fits n null t = is_elem (length n.structs) (pointee_of t)
  form_fits n (read p) t = place_fits n p && (same_types (place_type n p) t && is_value t)
  form_fits n (decay p) t = place_fits n p && (both_elem (item_of (place_type n p)) (pointee_of t) && keeps_const (place_const n p) t)
  form_fits n (address p) t = place_fits n p && (is_addressed p && (both_elem (element_of (place_type n p)) (pointee_of t) && keeps_const (place_const n p) t))
  form_fits n (unary op a) t = is_typed n a && unary_fits op (ty_of a) t
  form_fits n (convert a) t = is_typed n a && converts (ty_of a) t
  form_fits n (discard a) t = is_typed n a && is_none t
  form_fits n (chain a ls) t = is_typed n a && (has_links ls && links_fit n (ty_of a) ls t)
  form_fits n (logical op a os) t = (is_typed n a && is_scalar (ty_of a)) && ((has_operands os && operands_fit n os) && same_types t int)
  form_fits n (choice a b c) t = (is_typed n a && is_scalar (ty_of a)) && ((is_typed n b && same_types (ty_of b) t) && ((is_typed n c && same_types (ty_of c) t) && is_arm t))
  form_fits n (assign p a) t = (place_fits n p && is_written n p) && ((same_types (place_type n p) t && is_value t) && (is_typed n a && same_types (ty_of a) t))
  form_fits n (compound p at op a) t = (place_fits n p && is_written n p) && (same_types (place_type n p) t && (is_typed n a && (is_compound op && converts (stepped (promoted_value t) op (ty_of a)) t)))
  form_fits n (step p at back postfix) t = (place_fits n p && is_written n p) && (same_types (place_type n p) t && is_scalar t)
  form_fits n (call g arguments) t = all_typed n arguments && call_fits (slice_get n.signatures g.0) arguments t

  pub all_typed : Names → ExprTrees → Bool
  all_typed n no_exprs = true
  all_typed n (expr_and a rest) = is_typed n a && all_typed n rest

  -- the steps lead from a value of the first type to one of the last
  pub links_fit : Names → Option VarTy → LinkTrees → Option VarTy → Bool
  links_fit n a no_links t = same_types a t
  links_fit n a (link_and (link s ty op b) rest) t = is_typed n b && (same_types (stepped a op (ty_of b)) (Some ty) && links_fit n (Some ty) rest t)

  pub operands_fit : Names → OperandTrees → Bool
  operands_fit n no_operands = true
  operands_fit n (operand_and (operand s a) rest) = (is_typed n a && is_scalar (ty_of a)) && operands_fit n rest

  -- the expressions in a place are well formed
  pub place_fits : Names → PlaceTree → Bool
  place_fits n (place r ss) = root_fits n r && steps_fit n ss

  pub root_fits : Names → RootTree → Bool
  root_fits n (local v) = true
  root_fits n (global g) = true
  root_fits n (deref a s) = is_typed n a
  root_fits n (assigned a) = is_typed n a

  pub steps_fit : Names → StepTrees → Bool
  steps_fit n no_steps = true
  steps_fit n (step_and (field k) rest) = steps_fit n rest
  steps_fit n (step_and (item i s) rest) = is_typed n i && steps_fit n rest
