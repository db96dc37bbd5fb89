-- How a boot is spelled: a struct as its fields in order, a variant as its place in its enum and then
-- its fields, a list as its length and then its items, an option as 0, or as 1 and its value.
use Rattle.std.specs.Prelude.{ℕ, ℤ, suc, List, [], ◌∷◌, ◌++◌, length, Option, Some, None}
use Rattle.std.specs.List.{flat_map}
use Rattle.pt_base.specs.declared.span.Span.{Span}
use Rattle.pt_base.specs.declared.int_type.IntType.{IntType}
use Rattle.pt_int.specs.declared.operator.BinOp.{BinOp}
use Rattle.pt_int.specs.declared.operator.BinOp.TheVariants.{Mul, Div, Rem, Add, Sub, Shl, Shr, Lt, Gt, Le, Ge, Eq, Ne, And, Xor, Or}
use Rattle.pt_int.specs.declared.operator.UnOp.{UnOp}
use Rattle.pt_int.specs.declared.operator.UnOp.TheVariants.{Minus, Plus, Flip, Not}
use Rattle.pt_tree.specs.declared.signature.Elem.{Elem}
use Rattle.pt_tree.specs.declared.signature.Elem.TheVariants as elem
use Rattle.pt_tree.specs.declared.signature.ParamKind.{ParamKind}
use Rattle.pt_tree.specs.declared.signature.ParamKind.TheVariants as param
use Rattle.pt_tree.specs.declared.signature.Param.{Param}
use Rattle.pt_tree.specs.declared.signature.Signature.{Signature}
use Rattle.pt_tree.specs.declared.row.Row.{Row}
use Rattle.pt_tree.specs.declared.host_model.HostModel.{HostModel}
use Rattle.pt_tree.specs.declared.host_model.HostModel.TheVariants as model
use Rattle.typed_tree.specs.declared.types.VarTy.{VarTy}
use Rattle.typed_tree.specs.declared.types.VarTy.TheVariants as ty
use Rattle.typed_tree.specs.declared.types.Field.{Field}
use Rattle.typed_tree.specs.declared.types.StructInfo.{StructInfo}
use Rattle.typed_tree.specs.declared.variable.Var.{Var}
use Rattle.wire.specs.Spelling.{four_bytes, eight_bytes, sixteen_signed_bytes, truth_byte, type_byte}
use Rattle.pt_core.specs.CodeTree.{RootTree, local, global, deref, PlaceTree, place, ExprTree, constant, read, unary, binary, convert, null, address, decay, move, compare, difference, ExprTrees, no_exprs, expr_and, StmtTree, clear, check, assign, copy, call, choose, repeat, break_out, continue_on, give_back, StmtTrees, no_stmts, stmt_and, FunctionTree, GlobalTree, BootTree}

-- ---- lists and options

abbrev pub list_bytes : {A : Type 0} → (A → List ℕ) → List A → List ℕ
list_bytes item_bytes items = eight_bytes (length items) ++ flat_map item_bytes items

-- a byte string
abbrev pub text_bytes : List ℕ → List ℕ
text_bytes text = eight_bytes (length text) ++ text

abbrev pub option_bytes : {A : Type 0} → (A → List ℕ) → Option A → List ℕ
option_bytes value_bytes None = 0 ∷ []
option_bytes value_bytes (Some value) = 1 ∷ value_bytes value

-- what stands behind its number
abbrev pub numbered_bytes : {A : Type 0} → (A → List ℕ) → ℕ × A → List ℕ
numbered_bytes value_bytes x = four_bytes x.0 ++ value_bytes x.1

-- ---- types and objects

abbrev pub int_type_bytes : IntType → List ℕ
int_type_bytes t = type_byte t ∷ []

abbrev pub span_bytes : Span → List ℕ
span_bytes s = four_bytes s.from ++ four_bytes s.to

abbrev pub elem_bytes : Elem → List ℕ
elem_bytes (elem.Int t) = 0 ∷ int_type_bytes t
elem_bytes (elem.Struct n) = 1 ∷ four_bytes n

abbrev pub type_bytes : VarTy → List ℕ
type_bytes (ty.Int t) = 0 ∷ int_type_bytes t
type_bytes (ty.Struct n) = 1 ∷ four_bytes n
type_bytes (ty.Array item count) = 2 ∷ elem_bytes item ++ four_bytes count
type_bytes (ty.Pointer item fixed) = 3 ∷ elem_bytes item ++ truth_byte fixed ∷ []

abbrev pub field_bytes : Field → List ℕ
field_bytes f = text_bytes f.name ++ (type_bytes f.ty ++ truth_byte f.marked ∷ [])

abbrev pub struct_bytes : StructInfo → List ℕ
struct_bytes s = text_bytes s.name ++ list_bytes field_bytes s.fields

abbrev pub variable_bytes : Var → List ℕ
variable_bytes x =
    text_bytes x.name ++ (span_bytes x.span ++ (type_bytes x.ty ++ (truth_byte x.marked ∷ truth_byte x.unpriv ∷ option_bytes span_bytes x.holds)))

-- ---- signatures and hosts

abbrev pub param_kind_bytes : ParamKind → List ℕ
param_kind_bytes (param.Int t) = 0 ∷ int_type_bytes t
param_kind_bytes (param.Ptr item fixed) = 1 ∷ elem_bytes item ++ truth_byte fixed ∷ []

abbrev pub param_bytes : Param → List ℕ
param_bytes p = param_kind_bytes p.kind ++ truth_byte p.marked ∷ truth_byte p.declassify ∷ []

abbrev pub signature_bytes : Signature → List ℕ
signature_bytes s =
    text_bytes s.name
    ++ (option_bytes int_type_bytes s.result
    ++ (list_bytes param_bytes s.params ++ truth_byte s.host ∷ truth_byte s.privileged ∷ truth_byte s.declassify ∷ []))

abbrev pub numbers_bytes : List ℤ → List ℕ
numbers_bytes numbers = list_bytes sixteen_signed_bytes numbers

abbrev pub row_bytes : Row → List ℕ
row_bytes r = numbers_bytes r.args ++ sixteen_signed_bytes r.result

abbrev pub model_bytes : HostModel → List ℕ
model_bytes (model.Table rows other) = 0 ∷ list_bytes row_bytes rows ++ sixteen_signed_bytes other
model_bytes (model.Feed values other next) = 1 ∷ numbers_bytes values ++ (sixteen_signed_bytes other ++ eight_bytes next)
model_bytes (model.Input next) = 2 ∷ eight_bytes next
model_bytes model.Bytes = 3 ∷ []
model_bytes (model.Line name) = 4 ∷ text_bytes name

-- ---- code

abbrev pub unary_byte : UnOp → ℕ
unary_byte Minus = 0
unary_byte Plus = 1
unary_byte Flip = 2
unary_byte Not = 3

abbrev pub binary_byte : BinOp → ℕ
binary_byte Mul = 0
binary_byte Div = 1
binary_byte Rem = 2
binary_byte Add = 3
binary_byte Sub = 4
binary_byte Shl = 5
binary_byte Shr = 6
binary_byte Lt = 7
binary_byte Gt = 8
binary_byte Le = 9
binary_byte Ge = 10
binary_byte Eq = 11
binary_byte Ne = 12
binary_byte And = 13
binary_byte Xor = 14
binary_byte Or = 15

abbrev mutual
  pub expr_bytes : ExprTree → List ℕ
  expr_bytes (constant t v) = 0 ∷ type_byte t ∷ sixteen_signed_bytes v
  expr_bytes (read p) = 1 ∷ place_bytes p
  expr_bytes (unary op t a s) = 2 ∷ unary_byte op ∷ type_byte t ∷ expr_bytes a ++ span_bytes s
  expr_bytes (binary op t a b s) = 3 ∷ binary_byte op ∷ type_byte t ∷ expr_bytes a ++ (expr_bytes b ++ span_bytes s)
  expr_bytes (convert t a) = 4 ∷ type_byte t ∷ expr_bytes a
  expr_bytes (null item) = 5 ∷ elem_bytes item
  expr_bytes (address p) = 6 ∷ place_bytes p
  expr_bytes (decay p) = 7 ∷ place_bytes p
  expr_bytes (move a b back s) = 8 ∷ expr_bytes a ++ (expr_bytes b ++ truth_byte back ∷ span_bytes s)
  expr_bytes (compare op a b s) = 9 ∷ binary_byte op ∷ expr_bytes a ++ (expr_bytes b ++ span_bytes s)
  expr_bytes (difference a b s) = 10 ∷ expr_bytes a ++ (expr_bytes b ++ span_bytes s)

  pub place_bytes : PlaceTree → List ℕ
  place_bytes (place root path) = root_bytes root ++ list_bytes four_bytes path

  pub root_bytes : RootTree → List ℕ
  root_bytes (local v) = 0 ∷ four_bytes v
  root_bytes (global g) = 1 ∷ four_bytes g
  root_bytes (deref a s) = 2 ∷ expr_bytes a ++ span_bytes s

abbrev pub exprs_of : ExprTrees → List ExprTree
exprs_of no_exprs = []
exprs_of (expr_and a rest) = a ∷ exprs_of rest

abbrev pub exprs_bytes : ExprTrees → List ℕ
exprs_bytes arguments = list_bytes expr_bytes (exprs_of arguments)

abbrev pub count_of : StmtTrees → ℕ
count_of no_stmts = 0
count_of (stmt_and a rest) = suc (count_of rest)

abbrev mutual
  pub stmt_bytes : StmtTree → List ℕ
  stmt_bytes (clear v) = 0 ∷ four_bytes v
  stmt_bytes (check p) = 1 ∷ place_bytes p
  stmt_bytes (assign p a) = 2 ∷ place_bytes p ++ expr_bytes a
  stmt_bytes (copy p q) = 3 ∷ place_bytes p ++ place_bytes q
  stmt_bytes (call f arguments v s) = 4 ∷ four_bytes f ++ (exprs_bytes arguments ++ (option_bytes four_bytes v ++ span_bytes s))
  stmt_bytes (choose a xs ys) = 5 ∷ expr_bytes a ++ ((eight_bytes (count_of xs) ++ items_bytes xs) ++ (eight_bytes (count_of ys) ++ items_bytes ys))
  stmt_bytes (repeat xs s) = 6 ∷ (eight_bytes (count_of xs) ++ items_bytes xs) ++ span_bytes s
  stmt_bytes break_out = 7 ∷ []
  stmt_bytes continue_on = 8 ∷ []
  stmt_bytes (give_back a) = 9 ∷ option_bytes expr_bytes a

  pub items_bytes : StmtTrees → List ℕ
  items_bytes no_stmts = []
  items_bytes (stmt_and a rest) = stmt_bytes a ++ items_bytes rest

-- a list of statements, as it also stands in statements
abbrev pub stmts_bytes : StmtTrees → List ℕ
stmts_bytes xs = eight_bytes (count_of xs) ++ items_bytes xs

abbrev pub function_bytes : FunctionTree → List ℕ
function_bytes f = four_bytes f.id ++ (f.params ∷ list_bytes variable_bytes f.vars ++ (stmts_bytes f.body ++ span_bytes f.end))

abbrev pub global_bytes : GlobalTree → List ℕ
global_bytes g = four_bytes g.id ++ (variable_bytes g.var ++ numbers_bytes g.cells)

-- ---- boots

abbrev pub spelled : BootTree → List ℕ
spelled b =
    list_bytes struct_bytes b.structs
    ++ (list_bytes (numbered_bytes signature_bytes) b.signatures
    ++ (list_bytes function_bytes b.functions
    ++ (list_bytes global_bytes b.globals
    ++ (list_bytes (numbered_bytes model_bytes) b.hosts ++ (text_bytes b.input ++ four_bytes b.turns)))))
