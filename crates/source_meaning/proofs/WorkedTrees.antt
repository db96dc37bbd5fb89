-- Short ways to write typed trees, for worked runs.
use Rattle.std.specs.Prelude.{ℕ, pos, Bool, true, false, List, [], ◌∷◌, Option, Some, None, codes}
use Rattle.pt_base.specs.declared.int_type.IntType.{IntType}
use Rattle.pt_base.specs.declared.int_type.IntType.TheVariants as i
use Rattle.pt_base.specs.declared.span.Span.{Span}
use Rattle.pt_int.specs.declared.operator.BinOp.{BinOp}
use Rattle.pt_int.specs.declared.operator.BinOp.TheVariants as b
use Rattle.pt_tree.specs.declared.signature.Param.{Param}
use Rattle.pt_tree.specs.declared.signature.ParamKind.TheVariants as k
use Rattle.pt_tree.specs.declared.signature.Elem.TheVariants as el
use Rattle.pt_tree.specs.declared.host_model.HostModel.TheVariants as h
use Rattle.runs.specs.State.{Hosts}
use Rattle.typed_tree.specs.declared.ids.ExprId.{ExprId}
use Rattle.typed_tree.specs.declared.types.VarTy.{VarTy}
use Rattle.typed_tree.specs.declared.types.VarTy.TheVariants as ty
use Rattle.typed_tree.specs.declared.types.StructInfo.{StructInfo}
use Rattle.typed_tree.specs.declared.link.LinkStep.TheVariants as l
use Rattle.typed_tree.specs.declared.variable.Var.{Var}
use Rattle.typed_tree.specs.declared.statement.TypedInit.{TypedInit}
use Rattle.typed_tree.specs.ExpressionTree as t
use Rattle.typed_tree.specs.ExpressionTree.{ExprTree, typed, PlaceTree, place, StepTrees, no_steps, step_and, ExprTrees, no_exprs, expr_and, no_links, link_and, link, expr_trees}
use Rattle.typed_tree.specs.StatementTree.{BodyTree, block, evaluate, declare, give_back, body_trees}
use Rattle.typed_tree.specs.TypedTree.{TypedTree, FunctionTree}

abbrev pub at : ℕ → ℕ → Span
at from to = record { from = from; to = to }

-- where the place in the text plays no part
abbrev pub anywhere : Span
anywhere = at 0 0

-- ---- types

abbrev pub int : VarTy
int = ty.Int i.Int

abbrev pub char : VarTy
char = ty.Int i.Char

abbrev pub to_int : VarTy
to_int = ty.Pointer (el.Int i.Int) false

abbrev pub ints : ℕ → VarTy
ints count = ty.Array (el.Int i.Int) count

-- struct S { int f; char a[3]; }
abbrev pub struct_s : StructInfo
struct_s = record { name = codes "S"; fields = record { name = codes "f"; ty = int; marked = false } ∷ record { name = codes "a"; ty = ty.Array (el.Int i.Char) 3; marked = false } ∷ [] }

abbrev pub one_s : VarTy
one_s = ty.Struct 0

abbrev pub to_s : VarTy
to_s = ty.Pointer (el.Struct 0) false

-- ---- places and expressions

abbrev pub variable : ℕ → PlaceTree
variable x = place (t.local (record { 0 = x })) no_steps

-- variable x from these steps on
abbrev pub part : ℕ → StepTrees → PlaceTree
part x steps = place (t.local (record { 0 = x })) steps

abbrev pub item : Span → ExprTree → StepTrees → StepTrees
item s index rest = step_and (t.item index s) rest

abbrev pub field : ℕ → StepTrees → StepTrees
field k rest = step_and (t.field k) rest

abbrev pub constant : ℕ → ExprTree
constant v = typed anywhere (Some int) (t.constant (pos v))

abbrev pub read : VarTy → PlaceTree → ExprTree
read ty p = typed anywhere (Some ty) (t.read p)

abbrev pub value : ℕ → ExprTree
value x = read int (variable x)

abbrev pub as_char : ExprTree → ExprTree
as_char a = typed anywhere (Some char) (t.convert a)

abbrev pub as_int : ExprTree → ExprTree
as_int a = typed anywhere (Some int) (t.convert a)

-- an operator on ints
abbrev pub binary : Span → BinOp → ExprTree → ExprTree → ExprTree
binary s op a b = typed s (Some int) (t.chain a (link_and (link s int (l.Arithmetic op i.Int) b) no_links))

abbrev pub assign : VarTy → PlaceTree → ExprTree → ExprTree
assign ty p a = typed anywhere (Some ty) (t.assign p a)

-- p += a, computed in int
abbrev pub add_to : VarTy → PlaceTree → ExprTree → ExprTree
add_to ty p a = typed anywhere (Some ty) (t.compound p anywhere (l.Arithmetic b.Add i.Int) a)

-- p++
abbrev pub count_up : VarTy → PlaceTree → ExprTree
count_up ty p = typed anywhere (Some ty) (t.step p anywhere false true)

abbrev pub call : Span → Option VarTy → ℕ → List ExprTree → ExprTree
call s ty f arguments = typed s ty (t.call (record { 0 = f }) (expr_trees arguments))

-- ---- statements, functions, programs

abbrev pub expr : ℕ → ExprId
expr k = record { 0 = k }

abbrev pub does : ℕ → BodyTree
does k = evaluate anywhere (expr k)

abbrev pub returns : ℕ → BodyTree
returns k = give_back anywhere (Some (expr k))

abbrev pub declares : ℕ → TypedInit → BodyTree
declares x init = declare (record { span = anywhere; declarators = record { var = record { 0 = x }; init = init } ∷ [] })

abbrev pub of_type : VarTy → Var
of_type ty = record { name = []; span = anywhere; ty = ty; marked = false; unpriv = false; holds = None }

abbrev pub int_param : Bool → Param
int_param marked = record { kind = k.Int i.Int; marked = marked; declassify = false }

abbrev pub pointer_param : Param
pointer_param = record { kind = k.Ptr (el.Int i.Int) false; marked = false; declassify = true }

abbrev pub host : List ℕ → Option IntType → List Param → Bool → FunctionTree
host name result params privileged = record {
  signature = record { name = name; result = result; params = params; host = true; privileged = privileged; declassify = false };
  name = anywhere;
  vars = [];
  body = None;
}

abbrev pub function : List ℕ → Option IntType → List Param → Bool → List Var → BodyTree → FunctionTree
function name result params privileged vars body = record {
  signature = record { name = name; result = result; params = params; host = false; privileged = privileged; declassify = false };
  name = anywhere;
  vars = vars;
  body = Some body;
}

abbrev pub main : List Var → List BodyTree → FunctionTree
main vars statements = function (codes "main") (Some i.Int) [] false vars (block anywhere (body_trees statements))

abbrev pub program : List FunctionTree → List ExprTree → TypedTree
program functions exprs = record { structs = struct_s ∷ []; globals = []; functions = functions; exprs = exprs }

abbrev pub no_host : Hosts
no_host f = h.Bytes
