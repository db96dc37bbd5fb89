-- Which typed programs are well formed.
use Rattle.std.specs.Prelude.{ℕ, ◌^◌, ℤ, List, [], ◌∷◌, suc, Option, None, Some, Bool, true, false, ◌&&◌, not, nat_lt, nat_le, nat_eq, length, map, sum_by, is_some, is_none}
use Rattle.std.specs.List.{list_all, list_any}
use Rattle.std.specs.Str.{bytes_eq}
use Rattle.pt_base.specs.declared.int_type.IntType.{IntType}
use Rattle.pt_base.specs.declared.int_type.IntType.TheVariants as t
use Rattle.pt_base.specs.Names.{is_short}
use Rattle.pt_int.specs.Conversion.{is_in_range}
use Rattle.pt_tree.specs.declared.signature.Param.{Param}
use Rattle.pt_tree.specs.declared.signature.ParamKind.{ParamKind}
use Rattle.pt_tree.specs.declared.signature.ParamKind.TheVariants as k
use Rattle.typed_tree.specs.declared.part.Part.{Part}
use Rattle.typed_tree.specs.declared.types.VarTy.{VarTy}
use Rattle.typed_tree.specs.declared.types.VarTy.TheVariants.{Int, Struct, Array, Pointer}
use Rattle.typed_tree.specs.declared.types.Field.{Field}
use Rattle.typed_tree.specs.declared.types.StructInfo.{StructInfo}
use Rattle.typed_tree.specs.declared.variable.Var.{Var}
use Rattle.typed_tree.specs.declared.variable.TypedGlobal.{TypedGlobal}
use Rattle.typed_tree.specs.StatementTree.{BodyTree, block}
use Rattle.typed_tree.specs.TypedTree.{FunctionTree, TypedTree, signatures_of}
use Rattle.typed_tree.specs.Cells.{leaves_of, cells_of}
use Rattle.typed_tree.specs.Parts.{function_parts, function_variables}
use Rattle.typed_tree.specs.Nodes.{nodes_of}
use Rattle.typed_tree.specs.TypeTests.{same_type, same_bool, same_int}
use Rattle.typed_tree.specs.WellFormedExpression.{Names, is_elem, param_type, is_main}
use Rattle.typed_tree.specs.WellFormedStatement.{Scope, is_sound}

-- the type of a field or global among so many structs: no pointer, and an array has an element
abbrev pub is_plain_type : ℕ → VarTy → Bool
is_plain_type structs (Int t) = true
is_plain_type structs (Struct n) = nat_lt n structs
is_plain_type structs (Array elem count) = is_elem structs (Some elem) && nat_le 1 count
is_plain_type structs (Pointer elem fixed) = false

-- the type of a variable, which may be a pointer too
abbrev pub is_variable_type : ℕ → VarTy → Bool
is_variable_type structs (Int t) = true
is_variable_type structs (Struct n) = nat_lt n structs
is_variable_type structs (Array elem count) = is_elem structs (Some elem) && nat_le 1 count
is_variable_type structs (Pointer elem fixed) = is_elem structs (Some elem)

-- the most cells of one object or field
abbrev pub is_small : List StructInfo → VarTy → Bool
is_small structs ty = nat_le (cells_of structs ty) 65_536

abbrev pub field_sound : List StructInfo → ℕ → Field → Bool
field_sound structs earlier f = is_plain_type earlier f.ty && is_small structs f.ty

-- a struct behind so many: it has a field, and its fields name earlier structs only
abbrev pub struct_sound : List StructInfo → ℕ → StructInfo → Bool
struct_sound structs earlier s = nat_le 1 (length s.fields) && list_all (field_sound structs earlier) s.fields

-- the structs of a list, of which so many stand before
abbrev pub structs_sound : List StructInfo → ℕ → List StructInfo → Bool
structs_sound structs earlier [] = true
structs_sound structs earlier (s ∷ rest) = struct_sound structs earlier s && structs_sound structs (suc earlier) rest

-- one number for each integer, in the range of its type
abbrev pub cells_fit : List IntType → List ℤ → Bool
cells_fit [] [] = true
cells_fit [] (v ∷ vs) = false
cells_fit (t ∷ ts) [] = false
cells_fit (t ∷ ts) (v ∷ vs) = is_in_range t v && cells_fit ts vs

abbrev pub global_sound : List StructInfo → TypedGlobal → Bool
global_sound structs g =
    (is_plain_type (length structs) g.var.ty && is_small structs g.var.ty)
    && (is_none g.var.holds && cells_fit (leaves_of structs g.var.ty) g.cells)

-- all globals together, in cells
abbrev pub globals_small : List TypedGlobal → Bool
globals_small globals = nat_le (sum_by (λ g. length g.cells) globals) 1_048_576

abbrev pub variable_sound : List StructInfo → Var → Bool
variable_sound structs x = is_variable_type (length structs) x.ty && (is_small structs x.ty && is_none x.holds)

abbrev pub is_integer_kind : ParamKind → Bool
is_integer_kind (k.Int t) = true
is_integer_kind (k.Ptr elem fixed) = false

abbrev pub is_integer_param : Param → Bool
is_integer_param p = is_integer_kind p.kind

-- the first variables are the parameters: they have their types and their marks
abbrev pub params_lead : List Param → List Var → Bool
params_lead [] xs = true
params_lead (p ∷ ps) [] = false
params_lead (p ∷ ps) (x ∷ xs) = (same_type (param_type p.kind) x.ty && same_bool p.marked x.marked) && params_lead ps xs

-- a host: its parameters are integers, and it has no other variables
abbrev pub host_sound : FunctionTree → Bool
host_sound f =
    f.signature.host
    && (list_all is_integer_param f.signature.params && nat_eq (length f.vars) (length f.signature.params))

-- a body is a block
abbrev pub is_block : BodyTree → Bool
is_block (block s bs) = true
is_block _ = false

-- what the numbers in this function name
abbrev pub names_in : TypedTree → FunctionTree → Names
names_in t f = record {
  structs = t.structs;
  globals = t.globals;
  signatures = signatures_of t;
  vars = f.vars;
}

abbrev pub scope_in : TypedTree → FunctionTree → Scope
scope_in t f = record { names = names_in t f; exprs = t.exprs; result = f.signature.result }

-- a function with a body, or a host
abbrev pub body_sound : TypedTree → FunctionTree → Option BodyTree → Bool
body_sound t f None = host_sound f
body_sound t f (Some b) = not f.signature.host && (is_block b && is_sound (scope_in t f) false false b)

abbrev pub function_sound : TypedTree → FunctionTree → Bool
function_sound t f =
    (nat_le (length f.signature.params) 8 && params_lead f.signature.params f.vars)
    && (list_all (variable_sound t.structs) f.vars && body_sound t f f.body)

abbrev pub name_of : FunctionTree → List ℕ
name_of f = f.signature.name

-- no two names are equal
abbrev pub are_distinct : List (List ℕ) → Bool
are_distinct [] = true
are_distinct (name ∷ names) = not (list_any (bytes_eq name) names) && are_distinct names

-- no two names are equal, and each is that of a word of a text
abbrev pub names_sound : List (List ℕ) → Bool
names_sound names = are_distinct names && list_all is_short names

-- an int, if there is a type
abbrev pub is_int_result : Option IntType → Bool
is_int_result None = false
is_int_result (Some r) = same_int r t.Int

-- what main is: a function with a body, the result int and no parameters
abbrev pub is_start : FunctionTree → Bool
is_start f = is_main f.signature && (is_some f.body && (is_int_result f.signature.result && nat_eq (length f.signature.params) 0))

-- the parts have the numbers from this one on, all below the last
abbrev pub are_numbered : ℕ → List Part → ℕ → Bool
are_numbered first [] last = nat_le first last
are_numbered first (p ∷ ps) last = nat_eq p.expr.0 first && are_numbered (suc first) ps last

-- the same, from the number of the first part on
abbrev pub are_consecutive : List Part → ℕ → Bool
are_consecutive [] last = true
are_consecutive (p ∷ ps) last = are_numbered p.expr.0 (p ∷ ps) last

-- the numbers rise strictly, the first being no less than this one
abbrev pub are_rising : ℕ → List ℕ → Bool
are_rising first [] = true
are_rising first (n ∷ ns) = nat_le first n && are_rising (suc n) ns

-- In text order the outermost expressions of a body have consecutive numbers, and its declarators name
-- variables behind the parameters, each of them once.
abbrev pub numbers_sound : TypedTree → FunctionTree → Bool
numbers_sound t f = are_consecutive (function_parts f.body) (length t.exprs) && are_rising (length f.signature.params) (function_variables f.body)

-- what is kept of every typed program
unfoldable pub is_well_formed : TypedTree → Bool
is_well_formed t =
    (structs_sound t.structs 0 t.structs && (list_all (global_sound t.structs) t.globals && globals_small t.globals))
    && ((list_all (function_sound t) t.functions && (names_sound (map name_of t.functions) && list_any is_start t.functions))
    && (list_all (numbers_sound t) t.functions && nat_lt (nodes_of t) (2 ^ 28)))
