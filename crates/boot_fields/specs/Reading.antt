-- Reading a boot from left to right: each part and the bytes behind it, or why there is none.
use Rattle.std.specs.Prelude.{◌≡◌, ℕ, ℤ, zero, suc, Bool, true, false, List, [], ◌∷◌, length, take, drop, Option, Some, None, Result, Ok, Err, nat_lt, if◌then◌else◌, slice_get}
use Rattle.std.specs.Int.{w32, w64, w128}
use Rattle.pt_base.specs.declared.span.Span.{Span}
use Rattle.pt_base.specs.declared.int_type.IntType.{IntType}
use Rattle.pt_int.specs.declared.operator.BinOp.{BinOp}
use Rattle.pt_int.specs.declared.operator.BinOp.TheVariants.{Mul, Div, Rem, Add, Sub, Shl, Shr, Lt, Gt, Le, Ge, Eq, Ne, And, Xor, Or}
use Rattle.pt_int.specs.declared.operator.UnOp.{UnOp}
use Rattle.pt_int.specs.declared.operator.UnOp.TheVariants.{Minus, Plus, Flip, Not}
use Rattle.pt_tree.specs.declared.signature.Elem.{Elem}
use Rattle.pt_tree.specs.declared.signature.Elem.TheVariants as elem
use Rattle.pt_tree.specs.declared.signature.ParamKind.{ParamKind}
use Rattle.pt_tree.specs.declared.signature.ParamKind.TheVariants as param
use Rattle.pt_tree.specs.declared.signature.Param.{Param}
use Rattle.pt_tree.specs.declared.signature.Signature.{Signature}
use Rattle.pt_tree.specs.declared.row.Row.{Row}
use Rattle.pt_tree.specs.declared.host_model.HostModel.{HostModel}
use Rattle.pt_tree.specs.declared.host_model.HostModel.TheVariants as model
use Rattle.typed_tree.specs.declared.types.VarTy.{VarTy}
use Rattle.typed_tree.specs.declared.types.VarTy.TheVariants as ty
use Rattle.typed_tree.specs.declared.types.Field.{Field}
use Rattle.typed_tree.specs.declared.types.StructInfo.{StructInfo}
use Rattle.typed_tree.specs.declared.variable.Var.{Var}
use Rattle.wire.specs.Reading.{types, number_at, signed_at}
use Rattle.pt_core.specs.CodeTree.{RootTree, local, global, deref, PlaceTree, place, ExprTree, constant, read, unary, binary, convert, null, address, decay, move, compare, difference, ExprTrees, expr_trees, StmtTree, clear, check, assign, copy, call, choose, repeat, break_out, continue_on, give_back, StmtTrees, stmt_trees, FunctionTree, GlobalTree, BootTree}
use Rattle.boot_fields.specs.declared.fault.ReadError.{ReadError}
use Rattle.boot_fields.specs.declared.fault.ReadError.TheVariants.{Bad, Memory}
pub use Rattle.pt_base.specs.Names.{longest_name as deepest}

infixl 10 ◌>>=◌
abbrev pub ◌>>=◌ : {A B : Type 0} → Result A ReadError → (A → Result B ReadError) → Result B ReadError
(Ok x) >>= f = f x
(Err e) >>= f = Err e

-- reading answers the same, unless memory ran out
abbrev pub Fails : {Y : Type 0} → ReadError → Result Y ReadError → Type 0
Fails Bad reading = reading ≡ Err Bad
Fails Memory reading = Unit {0}

-- what a function returned, seen by view, is what reading answers, unless memory ran out
abbrev pub Gives : {X Y : Type 0} → (X → Y) → Result X ReadError → Result Y ReadError → Type 0
Gives view (Ok x) reading = reading ≡ Ok (view x)
Gives view (Err e) reading = Fails e reading

-- What stands at the front and the bytes behind it. Bad: the bytes don't begin so. Memory: it goes
-- deeper than is followed.
abbrev pub Reading : Type 0 → Type 0
Reading A = Result (A × List ℕ) ReadError

-- a part, made into another
abbrev pub mapped : {A B : Type 0} → (A → B) → (List ℕ → Reading A) → List ℕ → Reading B
mapped made part bytes = part bytes >>= λ x. Ok (made x.0, x.1)

-- a part and the one behind it
abbrev pub both : {A B : Type 0} → (List ℕ → Reading A) → (List ℕ → Reading B) → List ℕ → Reading (A × B)
both first second bytes = first bytes >>= λ x. second x.1 >>= λ y. Ok ((x.0, y.0), y.1)

-- ---- numbers and lists

unfoldable pub byte_at : List ℕ → Reading ℕ
byte_at [] = Err Bad
byte_at (b ∷ rest) = Ok (b, rest)

-- a number, as it stands in messages
abbrev pub as_in_messages : {A : Type 0} → Option (A × List ℕ) → Reading A
as_in_messages None = Err Bad
as_in_messages (Some found) = Ok found

unfoldable pub number32_at : List ℕ → Reading ℕ
number32_at bytes = as_in_messages (number_at w32 bytes)

unfoldable pub number64_at : List ℕ → Reading ℕ
number64_at bytes = as_in_messages (number_at w64 bytes)

unfoldable pub signed128_at : List ℕ → Reading ℤ
signed128_at bytes = as_in_messages (signed_at w128 bytes)

unfoldable pub truth_at : List ℕ → Reading Bool
truth_at [] = Err Bad
truth_at (zero ∷ rest) = Ok (false, rest)
truth_at (suc zero ∷ rest) = Ok (true, rest)
truth_at (suc (suc b) ∷ rest) = Err Bad

unfoldable pub text_at : List ℕ → Reading (List ℕ)
text_at bytes = number64_at bytes >>= λ n. if nat_lt (length n.1) n.0 then Err Bad else Ok (take n.0 n.1, drop n.0 n.1)

-- so many parts, one behind the other
unfoldable pub many : {A : Type 0} → (List ℕ → Reading A) → ℕ → List ℕ → Reading (List A)
many part zero bytes = Ok ([], bytes)
many part (suc n) bytes = part bytes >>= λ first. many part n first.1 >>= λ others. Ok (first.0 ∷ others.0, others.1)

unfoldable pub list_at : {A : Type 0} → (List ℕ → Reading A) → List ℕ → Reading (List A)
list_at part bytes = number64_at bytes >>= λ n. many part n.0 n.1

unfoldable pub option_at : {A : Type 0} → (List ℕ → Reading A) → List ℕ → Reading (Option A)
option_at part [] = Err Bad
option_at part (zero ∷ rest) = Ok (None, rest)
option_at part (suc zero ∷ rest) = mapped Some part rest
option_at part (suc (suc b) ∷ rest) = Err Bad

-- the value, if there is one
abbrev pub as_part : {A : Type 0} → Option A → List ℕ → Reading A
as_part None rest = Err Bad
as_part (Some x) rest = Ok (x, rest)

-- one of a list, by its place
abbrev pub one_of : {A : Type 0} → List A → List ℕ → Reading A
one_of values [] = Err Bad
one_of values (b ∷ rest) = as_part (slice_get values b) rest

-- ---- types and objects

unfoldable pub int_type_at : List ℕ → Reading IntType
int_type_at bytes = one_of types bytes

unfoldable pub span_at : List ℕ → Reading Span
span_at bytes = mapped (λ p. record { from = p.0; to = p.1 }) (both number32_at number32_at) bytes

unfoldable pub elem_at : List ℕ → Reading Elem
elem_at [] = Err Bad
elem_at (zero ∷ rest) = mapped elem.Int int_type_at rest
elem_at (suc zero ∷ rest) = mapped elem.Struct number32_at rest
elem_at (suc (suc b) ∷ rest) = Err Bad

unfoldable pub type_at : List ℕ → Reading VarTy
type_at [] = Err Bad
type_at (zero ∷ rest) = mapped ty.Int int_type_at rest
type_at (suc zero ∷ rest) = mapped ty.Struct number32_at rest
type_at (suc (suc zero) ∷ rest) = mapped (λ p. ty.Array p.0 p.1) (both elem_at number32_at) rest
type_at (suc (suc (suc zero)) ∷ rest) = mapped (λ p. ty.Pointer p.0 p.1) (both elem_at truth_at) rest
type_at (suc (suc (suc (suc b))) ∷ rest) = Err Bad

unfoldable pub field_at : List ℕ → Reading Field
field_at bytes = mapped (λ p. record { name = p.0; ty = p.1.0; marked = p.1.1 }) (both text_at (both type_at truth_at)) bytes

unfoldable pub struct_at : List ℕ → Reading StructInfo
struct_at bytes = mapped (λ p. record { name = p.0; fields = p.1 }) (both text_at (list_at field_at)) bytes

unfoldable pub variable_at : List ℕ → Reading Var
variable_at bytes =
    mapped (λ p. record { name = p.0; span = p.1.0; ty = p.1.1.0; marked = p.1.1.1.0; unpriv = p.1.1.1.1.0; holds = p.1.1.1.1.1 })
    (both text_at (both span_at (both type_at (both truth_at (both truth_at (option_at span_at)))))) bytes

-- ---- signatures and hosts

unfoldable pub param_kind_at : List ℕ → Reading ParamKind
param_kind_at [] = Err Bad
param_kind_at (zero ∷ rest) = mapped param.Int int_type_at rest
param_kind_at (suc zero ∷ rest) = mapped (λ p. param.Ptr p.0 p.1) (both elem_at truth_at) rest
param_kind_at (suc (suc b) ∷ rest) = Err Bad

unfoldable pub param_at : List ℕ → Reading Param
param_at bytes = mapped (λ p. record { kind = p.0; marked = p.1.0; declassify = p.1.1 }) (both param_kind_at (both truth_at truth_at)) bytes

unfoldable pub signature_at : List ℕ → Reading Signature
signature_at bytes =
    mapped (λ p. record { name = p.0; result = p.1.0; params = p.1.1.0; host = p.1.1.1.0; privileged = p.1.1.1.1.0; declassify = p.1.1.1.1.1 })
    (both text_at (both (option_at int_type_at) (both (list_at param_at) (both truth_at (both truth_at truth_at))))) bytes

unfoldable pub numbers_at : List ℕ → Reading (List ℤ)
numbers_at bytes = list_at signed128_at bytes

unfoldable pub row_at : List ℕ → Reading Row
row_at bytes = mapped (λ p. record { args = p.0; result = p.1 }) (both numbers_at signed128_at) bytes

unfoldable pub model_at : List ℕ → Reading HostModel
model_at [] = Err Bad
model_at (zero ∷ rest) = mapped (λ p. model.Table p.0 p.1) (both (list_at row_at) signed128_at) rest
model_at (suc zero ∷ rest) = mapped (λ p. model.Feed p.0 p.1.0 p.1.1) (both numbers_at (both signed128_at number64_at)) rest
model_at (suc (suc zero) ∷ rest) = mapped model.Input number64_at rest
model_at (suc (suc (suc zero)) ∷ rest) = Ok (model.Bytes, rest)
model_at (suc (suc (suc (suc zero))) ∷ rest) = mapped model.Line text_at rest
model_at (suc (suc (suc (suc (suc b)))) ∷ rest) = Err Bad

-- ---- expressions, by how those inside them are read

-- the operators in order
abbrev pub unary_ops : List UnOp
unary_ops = Minus ∷ Plus ∷ Flip ∷ Not ∷ []

abbrev pub binary_ops : List BinOp
binary_ops = Mul ∷ Div ∷ Rem ∷ Add ∷ Sub ∷ Shl ∷ Shr ∷ Lt ∷ Gt ∷ Le ∷ Ge ∷ Eq ∷ Ne ∷ And ∷ Xor ∷ Or ∷ []

unfoldable pub unary_op_at : List ℕ → Reading UnOp
unary_op_at bytes = one_of unary_ops bytes

unfoldable pub binary_op_at : List ℕ → Reading BinOp
binary_op_at bytes = one_of binary_ops bytes

unfoldable pub root_at : (List ℕ → Reading ExprTree) → List ℕ → Reading RootTree
root_at expr [] = Err Bad
root_at expr (zero ∷ rest) = mapped local number32_at rest
root_at expr (suc zero ∷ rest) = mapped global number32_at rest
root_at expr (suc (suc zero) ∷ rest) = mapped (λ p. deref p.0 p.1) (both expr span_at) rest
root_at expr (suc (suc (suc b)) ∷ rest) = Err Bad

unfoldable pub place_at : (List ℕ → Reading ExprTree) → List ℕ → Reading PlaceTree
place_at expr bytes = mapped (λ p. place p.0 p.1) (both (root_at expr) (list_at number32_at)) bytes

-- two operands and a span
unfoldable pub operands_at : (List ℕ → Reading ExprTree) → List ℕ → Reading (ExprTree × (ExprTree × Span))
operands_at expr bytes = both expr (both expr span_at) bytes

abbrev pub constant_at : List ℕ → Reading ExprTree
constant_at bytes = mapped (λ p. constant p.0 p.1) (both int_type_at signed128_at) bytes

unfoldable pub node_at : (List ℕ → Reading ExprTree) → List ℕ → Reading ExprTree
node_at expr [] = Err Bad
node_at expr (zero ∷ rest) = constant_at rest
node_at expr (suc zero ∷ rest) = mapped read (place_at expr) rest
node_at expr (suc (suc zero) ∷ rest) = mapped (λ p. unary p.0 p.1.0 p.1.1.0 p.1.1.1) (both unary_op_at (both int_type_at (both expr span_at))) rest
node_at expr (suc (suc (suc zero)) ∷ rest) = mapped (λ p. binary p.0 p.1.0 p.1.1.0 p.1.1.1.0 p.1.1.1.1) (both binary_op_at (both int_type_at (operands_at expr))) rest
node_at expr (suc (suc (suc (suc zero))) ∷ rest) = mapped (λ p. convert p.0 p.1) (both int_type_at expr) rest
node_at expr (suc (suc (suc (suc (suc zero)))) ∷ rest) = mapped null elem_at rest
node_at expr (suc (suc (suc (suc (suc (suc zero))))) ∷ rest) = mapped address (place_at expr) rest
node_at expr (suc (suc (suc (suc (suc (suc (suc zero)))))) ∷ rest) = mapped decay (place_at expr) rest
node_at expr (suc (suc (suc (suc (suc (suc (suc (suc zero))))))) ∷ rest) = mapped (λ p. move p.0 p.1.0 p.1.1.0 p.1.1.1) (both expr (both expr (both truth_at span_at))) rest
node_at expr (suc (suc (suc (suc (suc (suc (suc (suc (suc zero)))))))) ∷ rest) = mapped (λ p. compare p.0 p.1.0 p.1.1.0 p.1.1.1) (both binary_op_at (operands_at expr)) rest
node_at expr (suc (suc (suc (suc (suc (suc (suc (suc (suc (suc zero))))))))) ∷ rest) = mapped (λ p. difference p.0 p.1.0 p.1.1) (operands_at expr) rest
node_at expr (suc (suc (suc (suc (suc (suc (suc (suc (suc (suc (suc b)))))))))) ∷ rest) = Err Bad

-- an expression of at most so many nested nodes
unfoldable pub expr_at : ℕ → List ℕ → Reading ExprTree
expr_at zero bytes = Err Memory
expr_at (suc deeper) bytes = node_at (expr_at deeper) bytes

-- ---- statements, by how the expressions and statements inside them are read

unfoldable pub exprs_at : (List ℕ → Reading ExprTree) → List ℕ → Reading ExprTrees
exprs_at expr bytes = mapped expr_trees (list_at expr) bytes

unfoldable pub stmts_at : (List ℕ → Reading StmtTree) → List ℕ → Reading StmtTrees
stmts_at stmt bytes = mapped stmt_trees (list_at stmt) bytes

abbrev pub assign_at : (List ℕ → Reading ExprTree) → List ℕ → Reading StmtTree
assign_at expr bytes = mapped (λ p. assign p.0 p.1) (both (place_at expr) expr) bytes

abbrev pub copy_at : (List ℕ → Reading ExprTree) → List ℕ → Reading StmtTree
copy_at expr bytes = mapped (λ p. copy p.0 p.1) (both (place_at expr) (place_at expr)) bytes

abbrev pub call_at : (List ℕ → Reading ExprTree) → List ℕ → Reading StmtTree
call_at expr bytes = mapped (λ p. call p.0 p.1.0 p.1.1.0 p.1.1.1) (both number32_at (both (exprs_at expr) (both (option_at number32_at) span_at))) bytes

abbrev pub choose_at : (List ℕ → Reading ExprTree) → (List ℕ → Reading StmtTree) → List ℕ → Reading StmtTree
choose_at expr stmt bytes = mapped (λ p. choose p.0 p.1.0 p.1.1) (both expr (both (stmts_at stmt) (stmts_at stmt))) bytes

abbrev pub repeat_at : (List ℕ → Reading StmtTree) → List ℕ → Reading StmtTree
repeat_at stmt bytes = mapped (λ p. repeat p.0 p.1) (both (stmts_at stmt) span_at) bytes

unfoldable pub step_at : (List ℕ → Reading ExprTree) → (List ℕ → Reading StmtTree) → List ℕ → Reading StmtTree
step_at expr stmt [] = Err Bad
step_at expr stmt (zero ∷ rest) = mapped clear number32_at rest
step_at expr stmt (suc zero ∷ rest) = mapped check (place_at expr) rest
step_at expr stmt (suc (suc zero) ∷ rest) = assign_at expr rest
step_at expr stmt (suc (suc (suc zero)) ∷ rest) = copy_at expr rest
step_at expr stmt (suc (suc (suc (suc zero))) ∷ rest) = call_at expr rest
step_at expr stmt (suc (suc (suc (suc (suc zero)))) ∷ rest) = choose_at expr stmt rest
step_at expr stmt (suc (suc (suc (suc (suc (suc zero))))) ∷ rest) = repeat_at stmt rest
step_at expr stmt (suc (suc (suc (suc (suc (suc (suc zero)))))) ∷ rest) = Ok (break_out, rest)
step_at expr stmt (suc (suc (suc (suc (suc (suc (suc (suc zero))))))) ∷ rest) = Ok (continue_on, rest)
step_at expr stmt (suc (suc (suc (suc (suc (suc (suc (suc (suc zero)))))))) ∷ rest) = mapped give_back (option_at expr) rest
step_at expr stmt (suc (suc (suc (suc (suc (suc (suc (suc (suc (suc b))))))))) ∷ rest) = Err Bad

-- a statement of at most so many nested nodes
unfoldable pub stmt_at : ℕ → List ℕ → Reading StmtTree
stmt_at zero bytes = Err Memory
stmt_at (suc deeper) bytes = step_at (expr_at deeper) (stmt_at deeper) bytes

-- ---- programs of at most so many nested nodes

unfoldable pub function_at : ℕ → List ℕ → Reading FunctionTree
function_at depth bytes =
    mapped (λ p. record { id = p.0; params = p.1.0; vars = p.1.1.0; body = p.1.1.1.0; end = p.1.1.1.1 })
    (both number32_at (both byte_at (both (list_at variable_at) (both (stmts_at (stmt_at depth)) span_at)))) bytes

unfoldable pub global_at : List ℕ → Reading GlobalTree
global_at bytes = mapped (λ p. record { id = p.0; var = p.1.0; cells = p.1.1 }) (both number32_at (both variable_at numbers_at)) bytes

-- what stands behind its number
unfoldable pub numbered_at : {A : Type 0} → (List ℕ → Reading A) → List ℕ → Reading (ℕ × A)
numbered_at part bytes = both number32_at part bytes

unfoldable pub boot_at : ℕ → List ℕ → Reading BootTree
boot_at depth bytes =
    mapped
    (λ p. record {
      structs = p.0;
      signatures = p.1.0;
      functions = p.1.1.0;
      globals = p.1.1.1.0;
      hosts = p.1.1.1.1.0;
      input = p.1.1.1.1.1.0;
      turns = p.1.1.1.1.1.1;
    })
    (both (list_at struct_at)
    (both (list_at (numbered_at signature_at))
    (both (list_at (function_at depth))
    (both (list_at global_at)
    (both (list_at (numbered_at model_at)) (both text_at number32_at)))))) bytes
