-- Operators before one operand, and casts (C99 6.5.3, 6.5.4). `s` is the span of the whole, `at` that
-- of the operand.
use Rattle.std.specs.Prelude.{[], ◌∷◌, ◌++◌, Bool, true, false, Option, Some, None, if◌then◌else◌}
use Rattle.pt_base.specs.declared.span.Span.{Span}
use Rattle.pt_base.specs.declared.int_type.IntType.TheVariants as int
use Rattle.pt_int.specs.declared.operator.UnOp.{UnOp}
use Rattle.pt_int.specs.declared.operator.UnOp.TheVariants.{Minus, Plus, Flip, Not}
use Rattle.pt_tree.specs.declared.operator.PrefixOp.{PrefixOp}
use Rattle.pt_tree.specs.declared.operator.PrefixOp.TheVariants as op
use Rattle.pt_tree.specs.declared.signature.Elem.{Elem}
use Rattle.pt_tree.specs.declared.signature.Elem.TheVariants as elem
use Rattle.type_rules.specs.declared.types.Type.{«Type»}
use Rattle.type_rules.specs.declared.types.Type.TheVariants.{Bad, Void, Int, Struct, Array, Pointer}
use Rattle.type_rules.specs.declared.unary.UnaryRule.{UnaryRule}
use Rattle.type_rules.specs.declared.unary.UnaryRule.TheVariants as unary_rule
use Rattle.type_rules.specs.declared.conversions.CastRule.{CastRule}
use Rattle.type_rules.specs.declared.conversions.CastRule.TheVariants as cast
use Rattle.type_rules.specs.Operators.{promoted_rule, not_rule, step_rule, deref_rule}
use Rattle.type_rules.specs.Conversions.{cast_rule}
use Rattle.typed_tree.specs.declared.types.VarTy.TheVariants as v
use Rattle.typed_tree.specs.declared.link.LinkStep.TheVariants as link_step
use Rattle.typed_tree.specs.ExpressionTree.{ExprTree, typed, unary, step, address, decay, chain, convert, discard, link, link_trees, place, step_trees}
use Rattle.check_declarations.specs.declared.fault.FaultKind.{FaultKind}
use Rattle.check_declarations.specs.declared.fault.FaultKind.TheVariants.{NotLvalue, WrongType, OutOfProfile}
use Rattle.check_declarations.specs.Faults.{fault_at}
use Rattle.check_declarations.specs.Structs.{Structs}
use Rattle.check_expressions.specs.Conversions.{as_type}
use Rattle.check_expressions.specs.Operands.{Elaboration, value, object, pointed, moved, element, Known, Made, var_type, place_of, value_tree, value_of, plain, designated, fine, refused}
use Rattle.check_expressions.specs.Targets.{optional_fault, target_fault}

-- ---- + - ~ !

unfoldable pub unary_rule_of : UnOp → «Type» → UnaryRule
unary_rule_of Minus ty = promoted_rule ty
unary_rule_of Plus ty = promoted_rule ty
unary_rule_of Flip ty = promoted_rule ty
unary_rule_of Not ty = not_rule ty

-- the operand of ! stays as it is, those of the others are promoted
unfoldable pub unary_operand : UnOp → «Type» → ExprTree → ExprTree
unary_operand Minus ty x = as_type ty false x
unary_operand Plus ty x = as_type ty false x
unary_operand Flip ty x = as_type ty false x
unary_operand Not ty x = x

unfoldable pub computed_by : UnaryRule → UnOp → Span → Span → ExprTree → Made
computed_by unary_rule.Unknown op s at x = refused []
computed_by unary_rule.Wrong op s at x = refused (fault_at WrongType at ∷ [])
computed_by (unary_rule.Gives ty) op s at x = fine (plain ty (typed s (var_type ty) (unary op (unary_operand op ty x))))

unfoldable pub computed : UnOp → Span → Span → Known → Made
computed op s at k = computed_by (unary_rule_of op (value_of k).ty) op s at (value_tree at k)

-- ---- *

-- the pointee is const
unfoldable pub points_to_const : «Type» → Bool
points_to_const Bad = false
points_to_const Void = false
points_to_const (Int t) = false
points_to_const (Struct n) = false
points_to_const (Array e count) = false
points_to_const (Pointer e fixed) = fixed

unfoldable pub dereferenced_by : UnaryRule → Bool → Span → Span → ExprTree → Made
dereferenced_by unary_rule.Unknown fixed s at x = refused []
dereferenced_by unary_rule.Wrong fixed s at x = refused (fault_at WrongType at ∷ [])
dereferenced_by (unary_rule.Gives ty) fixed s at x = fine (designated ty fixed (pointed x s))

unfoldable pub dereferenced : Span → Span → Known → Made
dereferenced s at k = dereferenced_by (deref_rule (value_of k).ty) (points_to_const (value_of k).ty) s at (value_tree at k)

-- ---- &

-- & of * gives the pointer back, and & of an element the moved pointer (C99 6.5.3.2p3); the pointer has
-- this type
unfoldable pub address_tree : Span → Elem → Bool → Elaboration → ExprTree
address_tree s e fixed (value x) = typed s (Some (v.Pointer e fixed)) (address (place_of (value x)))
address_tree s e fixed (object root steps) = typed s (Some (v.Pointer e fixed)) (address (place_of (object root steps)))
address_tree s e fixed (pointed p span) = typed s (Some (v.Pointer e fixed)) (convert p)
address_tree s e fixed (moved (typed span ty f)) = typed s ty f
address_tree s e fixed (element root steps at i span) =
    typed s (Some (v.Pointer e fixed)) (chain (typed at (Some (v.Pointer e fixed)) (decay (place root (step_trees steps)))) (link_trees (link span (v.Pointer e fixed) (link_step.Move false) i ∷ [])))

-- the object's address; what designates none has no address
unfoldable pub address_of : Span → Span → Elem → Known → Made
address_of s at e k =
    if k.designates then fine (plain (Pointer e k.fixed) (address_tree s e k.fixed k.tree))
    else refused (fault_at NotLvalue at ∷ [])

-- this profile has no pointers to pointers
unfoldable pub address_of_pointer : Bool → Span → Span → Made
address_of_pointer designates s at = if designates then refused (fault_at OutOfProfile s ∷ []) else refused (fault_at NotLvalue at ∷ [])

unfoldable pub addressed_as : «Type» → Span → Span → Known → Made
addressed_as Bad s at k = refused []
addressed_as Void s at k = refused (fault_at NotLvalue at ∷ [])
addressed_as (Int t) s at k = address_of s at (elem.Int t) k
addressed_as (Struct n) s at k = address_of s at (elem.Struct n) k
addressed_as (Array e count) s at k = refused (fault_at WrongType at ∷ [])
addressed_as (Pointer e fixed) s at k = address_of_pointer k.designates s at

unfoldable pub addressed : Span → Span → Known → Made
addressed s at k = addressed_as k.ty s at k

-- ---- ++ and --

abbrev pub step_tree : Span → «Type» → Bool → Bool → Span → Elaboration → ExprTree
step_tree s ty back postfix at t = typed s (var_type ty) (step (place_of t) at back postfix)

unfoldable pub stepped_by : Option FaultKind → UnaryRule → Span → Bool → Bool → Span → Elaboration → Made
stepped_by target unary_rule.Unknown s back postfix at t = refused (optional_fault target at)
stepped_by target unary_rule.Wrong s back postfix at t = refused (optional_fault target at ++ fault_at WrongType at ∷ [])
stepped_by None (unary_rule.Gives ty) s back postfix at t = fine (plain ty (step_tree s ty back postfix at t))
stepped_by (Some kind) (unary_rule.Gives ty) s back postfix at t = refused (optional_fault (Some kind) at)

-- `back` is --, and `postfix` that it stands behind the operand
unfoldable pub stepped : Structs → Span → Bool → Bool → Span → Known → Made
stepped structs s back postfix at k = stepped_by (target_fault structs k) (step_rule k.ty) s back postfix at k.tree

-- ---- all operators before an operand

unfoldable pub prefixed : Structs → PrefixOp → Span → Span → Known → Made
prefixed structs op.AddressOf s at k = addressed s at k
prefixed structs op.Dereference s at k = dereferenced s at k
prefixed structs op.Plus s at k = computed Plus s at k
prefixed structs op.Minus s at k = computed Minus s at k
prefixed structs op.Complement s at k = computed Flip s at k
prefixed structs op.Not s at k = computed Not s at k
prefixed structs op.Increment s at k = stepped structs s false false at k
prefixed structs op.Decrement s at k = stepped structs s true false at k

-- ---- casts

-- * makes a pointer of any base; which one doesn't matter, since no cast goes to a pointer
unfoldable pub cast_target : Bool → «Type» → «Type»
cast_target false base = base
cast_target true Bad = Bad
cast_target true Void = Pointer (elem.Int int.Char) false
cast_target true (Int t) = Pointer (elem.Int t) false
cast_target true (Struct n) = Pointer (elem.Struct n) false
cast_target true (Array e count) = Pointer e false
cast_target true (Pointer e fixed) = Pointer e fixed

unfoldable pub cast_by : CastRule → Span → Span → ExprTree → Made
cast_by cast.Unknown s at x = refused []
cast_by cast.Wrong s at x = refused (fault_at WrongType at ∷ [])
cast_by cast.OutOfProfile s at x = refused (fault_at OutOfProfile s ∷ [])
cast_by (cast.Converts t) s at x = fine (plain (Int t) (typed s (Some (v.Int t)) (convert x)))
cast_by cast.Discards s at x = fine (plain Void (typed s None (discard x)))

unfoldable pub cast_to : Bool → «Type» → Span → Span → Known → Made
cast_to pointer base s at k = cast_by (cast_rule (cast_target pointer base) (value_of k)) s at (value_tree at k)
