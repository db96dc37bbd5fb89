-- What stands behind an operand (C99 6.5.2). `s` is the span of all up to and with it, `at` that of all
-- before it.
use Rattle.std.specs.Prelude.{ℕ, List, [], ◌∷◌, ◌++◌, Bool, true, false, ◌||◌, Option, Some, None, codes, length, nat_eq, if◌then◌else◌}
use Rattle.std.specs.Str.{bytes_eq}
use Rattle.pt_base.specs.declared.ids.FnId.{FnId}
use Rattle.pt_base.specs.declared.span.Span.{Span}
use Rattle.pt_tree.specs.declared.signature.Elem.TheVariants as elem
use Rattle.pt_tree.specs.declared.word.Word.{Word}
use Rattle.pt_tree.specs.ExpressionTree as e
use Rattle.type_rules.specs.declared.types.Type.{«Type»}
use Rattle.type_rules.specs.declared.types.Type.TheVariants.{Bad, Void, Int, Struct, Array, Pointer}
use Rattle.type_rules.specs.declared.types.Value.{Value}
use Rattle.type_rules.specs.declared.operators.Rule.{Rule}
use Rattle.type_rules.specs.declared.operators.Rule.TheVariants as rule
use Rattle.type_rules.specs.Types.{elem_type}
use Rattle.type_rules.specs.Operators.{index_rule}
use Rattle.type_rules.specs.Conversions.{fit_rule, is_wrong}
use Rattle.typed_tree.specs.declared.link.LinkStep.{LinkStep}
use Rattle.typed_tree.specs.declared.link.LinkStep.TheVariants as link_step
use Rattle.typed_tree.specs.ExpressionTree.{ExprTree, typed, chain, link, link_trees, field, deref, call, expr_trees, RootTree, StepTree}
use Rattle.check_declarations.specs.declared.fault.FaultKind.TheVariants.{UnknownName, WrongType, ArgCount, OutOfProfile}
use Rattle.check_declarations.specs.declared.fault.TypeFault.{TypeFault}
use Rattle.check_declarations.specs.declared.structs.FoundField.{FoundField}
use Rattle.check_declarations.specs.Faults.{fault_at, fault_if}
use Rattle.check_declarations.specs.Structs.{Structs, field_named}
use Rattle.check_expressions.specs.declared.meaning.Callable.{Callable}
use Rattle.check_expressions.specs.declared.meaning.Meaning.{Meaning}
use Rattle.check_expressions.specs.declared.meaning.Meaning.TheVariants.{Function, Global, Local}
use Rattle.check_expressions.specs.Conversions.{as_type}
use Rattle.check_expressions.specs.Environment.{Env, find, function_at}
use Rattle.check_expressions.specs.Links.{link_type, rule_faults}
use Rattle.check_expressions.specs.Operands.{Elaboration, object, moved, element, Known, Made, var_type, root_of, steps_of, value_tree, value_of, plain, designated, fine, refused}
use Rattle.check_expressions.specs.Prefixes.{points_to_const}

-- ---- [ ]

unfoldable pub pointee : «Type» → «Type»
pointee Bad = Bad
pointee Void = Bad
pointee (Int t) = Bad
pointee (Struct n) = Bad
pointee (Array e count) = Bad
pointee (Pointer e fixed) = elem_type e

-- what a pointer of this type points to
abbrev pub pointee_known : «Type» → Elaboration → Known
pointee_known ty t = designated (pointee ty) (points_to_const ty) t

-- one operand moved by the other
unfoldable pub moved_tree : Span → «Type» → LinkStep → ExprTree → ExprTree → ExprTree
moved_tree s ty step x y = typed s (var_type ty) (chain x (link_trees (link s (link_type ty) step y ∷ [])))

-- an array's element is a part of it; what else is subscripted is a moved pointer
unfoldable pub element_tree : «Type» → Span → Span → Known → ExprTree → Elaboration
element_tree (Array e count) s at k y = element (root_of k.tree) (steps_of k.tree) at y s
element_tree Bad s at k y = moved (moved_tree s (value_of k).ty (link_step.Move false) (value_tree at k) y)
element_tree Void s at k y = moved (moved_tree s (value_of k).ty (link_step.Move false) (value_tree at k) y)
element_tree (Int t) s at k y = moved (moved_tree s (value_of k).ty (link_step.Move false) (value_tree at k) y)
element_tree (Struct n) s at k y = moved (moved_tree s (value_of k).ty (link_step.Move false) (value_tree at k) y)
element_tree (Pointer e fixed) s at k y = moved (moved_tree s (value_of k).ty (link_step.Move false) (value_tree at k) y)

-- the same where the index is the pointer
unfoldable pub index_tree : Span → Span → Known → Span → Known → Elaboration
index_tree s at k at_index i = moved (moved_tree s (value_of i).ty link_step.MoveBy (value_tree at k) (value_tree at_index i))

unfoldable pub indexed_by : Rule → Span → Span → Known → Span → Known → Made
indexed_by rule.Unknown s at k at_index i = refused []
indexed_by (rule.Wrong left right) s at k at_index i = refused (rule_faults (rule.Wrong left right) at at_index)
indexed_by (rule.Arithmetic t) s at k at_index i = refused []
indexed_by (rule.Comparison t) s at k at_index i = refused []
indexed_by (rule.Shift t) s at k at_index i = refused []
indexed_by rule.Logical s at k at_index i = refused []
indexed_by rule.Move s at k at_index i = fine (pointee_known (value_of k).ty (element_tree k.ty s at k (value_tree at_index i)))
indexed_by rule.MoveBy s at k at_index i = fine (pointee_known (value_of i).ty (index_tree s at k at_index i))
indexed_by rule.Difference s at k at_index i = refused []
indexed_by rule.ComparePointers s at k at_index i = refused []

unfoldable pub indexed : Span → Span → Known → Span → Known → Made
indexed s at k at_index i = indexed_by (index_rule (value_of k) (value_of i)) s at k at_index i

-- ---- . and ->

-- a part of an object: it is const where the object or the field is, and an object where that is one
unfoldable pub part_by : Option FoundField → Word → Bool → Bool → RootTree → List StepTree → Made
part_by None w fixed designates root steps = refused (fault_at UnknownName w.span ∷ [])
part_by (Some f) w fixed designates root steps = fine (record {
  ty = f.entry.ty;
  fixed = fixed || f.entry.fixed;
  designates = designates;
  null = false;
  tree = object root (steps ++ field f.number ∷ []);
})

unfoldable pub dotted_as : «Type» → Structs → Word → Span → Known → Made
dotted_as Bad structs w at k = refused []
dotted_as Void structs w at k = refused (fault_at WrongType at ∷ [])
dotted_as (Int t) structs w at k = refused (fault_at WrongType at ∷ [])
dotted_as (Struct n) structs w at k = part_by (field_named structs n w.bytes) w k.fixed k.designates (root_of k.tree) (steps_of k.tree)
dotted_as (Array e count) structs w at k = refused (fault_at WrongType at ∷ [])
dotted_as (Pointer e fixed) structs w at k = refused (fault_at WrongType at ∷ [])

unfoldable pub dotted : Structs → Word → Span → Known → Made
dotted structs w at k = dotted_as k.ty structs w at k

unfoldable pub arrow_as : «Type» → Structs → Span → Word → Span → ExprTree → Made
arrow_as Bad structs s w at x = refused []
arrow_as Void structs s w at x = refused (fault_at WrongType at ∷ [])
arrow_as (Int t) structs s w at x = refused (fault_at WrongType at ∷ [])
arrow_as (Struct n) structs s w at x = refused (fault_at WrongType at ∷ [])
arrow_as (Array e count) structs s w at x = refused (fault_at WrongType at ∷ [])
arrow_as (Pointer (elem.Int t) fixed) structs s w at x = refused (fault_at WrongType at ∷ [])
arrow_as (Pointer (elem.Struct n) fixed) structs s w at x = part_by (field_named structs n w.bytes) w fixed true (deref x s) []

unfoldable pub arrow : Structs → Span → Word → Span → Known → Made
arrow structs s w at k = arrow_as (value_of k).ty structs s w at (value_tree at k)

-- ---- calls

unfoldable pub is_main : List ℕ → Bool
is_main name = bytes_eq name (codes "main")

unfoldable pub function_meant : Option Meaning → Option FnId
function_meant None = None
function_meant (Some (Function f)) = Some f
function_meant (Some (Global g)) = None
function_meant (Some (Local v)) = None

-- the function that the expression names
unfoldable pub function_named : Env → e.ExprTree → Option FnId
function_named env (e.name w) = function_meant (find env w.bytes)
function_named env (e.constant c) = None
function_named env (e.prefix s op a) = None
function_named env (e.cast s specs pointer a) = None
function_named env (e.postfix s a ps) = None
function_named env (e.chain s a ls) = None
function_named env (e.choice s a b c) = None
function_named env (e.assign s op a b) = None

unfoldable pub is_call : e.PostfixTree → Bool
is_call (e.index s a) = false
is_call (e.call s es) = true
is_call (e.dot s w) = false
is_call (e.arrow s w) = false
is_call (e.increment s) = false
is_call (e.decrement s) = false

unfoldable pub is_called : e.PostfixTrees → Bool
is_called e.no_postfixes = false
is_called (e.postfix_and p ps) = is_call p

-- the function that is called: a call stands directly behind its name
unfoldable pub function_called : Env → e.ExprTree → e.PostfixTrees → Option FnId
function_called env a ps = if is_called ps then function_named env a else None

unfoldable pub function_params : Callable → List «Type»
function_params f = if is_main f.name then [] else f.params

unfoldable pub params_of : Option Callable → List «Type»
params_of None = []
params_of (Some f) = function_params f

-- the types that a call's arguments have to fit: those of a function that may be called
unfoldable pub params_for : Env → Option FnId → List «Type»
params_for env None = []
params_for env (Some f) = params_of (function_at env f)

unfoldable pub argument_tree : Option «Type» → Value → ExprTree → ExprTree
argument_tree None w x = x
argument_tree (Some t) w x = as_type t w.null x

unfoldable pub argument_faults : Option «Type» → Value → Span → List TypeFault
argument_faults None w at = []
argument_faults (Some t) w at = fault_if (is_wrong (fit_rule t w)) WrongType at

abbrev pub call_tree : Span → «Type» → FnId → List ExprTree → ExprTree
call_tree s ty f trees = typed s (var_type ty) (call f (expr_trees trees))

-- with another number of arguments than parameters, the call has no type
unfoldable pub call_of : Callable → Span → FnId → List ExprTree → Made
call_of c s f trees =
    if is_main c.name then refused (fault_at OutOfProfile s ∷ [])
    else if nat_eq (length trees) (length c.params) then fine (plain c.result (call_tree s c.result f trees))
    else refused (fault_at ArgCount s ∷ [])

unfoldable pub called_function : Option Callable → Span → FnId → List ExprTree → Made
called_function None s f trees = refused []
called_function (Some c) s f trees = call_of c s f trees

-- what is no function isn't called
unfoldable pub called_other : «Type» → Span → Made
called_other Bad s = refused []
called_other Void s = refused (fault_at WrongType s ∷ [])
called_other (Int t) s = refused (fault_at WrongType s ∷ [])
called_other (Struct n) s = refused (fault_at WrongType s ∷ [])
called_other (Array e count) s = refused (fault_at WrongType s ∷ [])
called_other (Pointer e fixed) s = refused (fault_at WrongType s ∷ [])

-- a call of a function, or of what else has this type
unfoldable pub called : Env → Option FnId → «Type» → Span → List ExprTree → Made
called env None ty s trees = called_other ty s
called env (Some f) ty s trees = called_function (function_at env f) s f trees
