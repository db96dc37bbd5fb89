-- Functions: declarations and definitions (C99 6.7.5.3, 6.9.1).
use Rattle.std.specs.Prelude.{ℕ, ◌+◌, List, [], ◌∷◌, ◌++◌, Bool, true, false, not, ◌&&◌, ◌||◌, Option, Some, None, is_some, map, length, slice_get, slice_set, sum_by, nat_lt, nat_eq, codes}
use Rattle.std.specs.Option.{option_map_or}
use Rattle.std.specs.Str.{bytes_eq}
use Rattle.pt_base.specs.declared.int_type.IntType.TheVariants as int
use Rattle.pt_base.specs.declared.ids.FnId.{FnId}
use Rattle.pt_base.specs.declared.span.Span.{Span}
use Rattle.pt_tree.specs.declared.signature.Param.{Param}
use Rattle.pt_tree.specs.declared.signature.ParamKind.{ParamKind}
use Rattle.pt_tree.specs.declared.signature.ParamKind.TheVariants as param
use Rattle.pt_tree.specs.declared.signature.Signature.{Signature}
use Rattle.pt_tree.specs.ProgramTree as parsed
use Rattle.pt_tree.specs.StatementTree.{BlockTree}
use Rattle.type_rules.specs.declared.types.Type.{«Type»}
use Rattle.type_rules.specs.declared.types.Type.TheVariants.{Bad, Void, Int, Struct, Array, Pointer}
use Rattle.type_rules.specs.Types.{is_same_int, is_same_elem}
use Rattle.typed_tree.specs.declared.variable.Var.{Var}
use Rattle.typed_tree.specs.StatementTree.{BodyTree, block, body_trees}
use Rattle.typed_tree.specs.TypedTree.{FunctionTree}
use Rattle.typed_tree.specs.TypeTests.{same_bool}
use Rattle.check_declarations.specs.declared.fault.FaultKind.TheVariants.{Redeclared, TooLarge}
use Rattle.check_declarations.specs.declared.fault.TypeFault.{TypeFault}
use Rattle.check_declarations.specs.declared.marks.Carrier.TheVariants as carrier
use Rattle.check_declarations.specs.declared.marks.Marks.{Marks}
use Rattle.check_declarations.specs.Cells.{cells_of}
use Rattle.check_declarations.specs.Faults.{fault_if}
use Rattle.check_declarations.specs.Marks.{mark_faults}
use Rattle.check_declarations.specs.Objects.{result_faults, result_type}
use Rattle.check_declarations.specs.Specifiers.{specified}
use Rattle.check_declarations.specs.Structs.{Structs}
use Rattle.check_expressions.specs.declared.meaning.Callable.{Callable}
use Rattle.check_expressions.specs.declared.meaning.Meaning.{Meaning}
use Rattle.check_expressions.specs.declared.meaning.Meaning.TheVariants.{Function, Global, Local}
use Rattle.check_expressions.specs.declared.meaning.Variable.{Variable}
use Rattle.check_expressions.specs.Environment.{Env, opened, find_in, function_at, with_function, without_variables}
use Rattle.check_expressions.specs.StructInfos.{object_type_of}
use Rattle.check_statements.specs.Statements.{CheckedAll}
use Rattle.check_programs.specs.declared.function_marks.FunctionMarks.{FunctionMarks}
use Rattle.check_programs.specs.Unions.{marks_at}
use Rattle.check_programs.specs.Blocks.{block_in}
use Rattle.check_programs.specs.Parameters.{parameters_of, Declared, declared_all}
use Rattle.check_programs.specs.Progress.{Progress, result_type_of}

-- ---- declarations of one function agree

-- The types of two declarations are one (C99 6.7.5.3p15): a pointee's const counts. What is faulty
-- agrees with everything.
abbrev pub agree : «Type» → «Type» → Bool
agree Bad b = true
agree Void Bad = true
agree Void Void = true
agree Void (Int t) = false
agree Void (Struct n) = false
agree Void (Array e count) = false
agree Void (Pointer e fixed) = false
agree (Int t) Bad = true
agree (Int t) Void = false
agree (Int t) (Int u) = is_same_int t u
agree (Int t) (Struct n) = false
agree (Int t) (Array e count) = false
agree (Int t) (Pointer e fixed) = false
agree (Struct m) Bad = true
agree (Struct m) Void = false
agree (Struct m) (Int t) = false
agree (Struct m) (Struct n) = nat_eq m n
agree (Struct m) (Array e count) = false
agree (Struct m) (Pointer e fixed) = false
agree (Array e count) Bad = true
agree (Array e count) Void = false
agree (Array e count) (Int t) = false
agree (Array e count) (Struct n) = false
agree (Array d few) (Array e count) = is_same_elem d e && nat_eq few count
agree (Array d few) (Pointer e fixed) = false
agree (Pointer d a) Bad = true
agree (Pointer d a) Void = false
agree (Pointer d a) (Int t) = false
agree (Pointer d a) (Struct n) = false
agree (Pointer d a) (Array e count) = false
agree (Pointer d a) (Pointer e b) = is_same_elem d e && same_bool a b

abbrev pub all_agree : List «Type» → List «Type» → Bool
all_agree [] [] = true
all_agree [] (u ∷ us) = false
all_agree (t ∷ ts) [] = false
all_agree (t ∷ ts) (u ∷ us) = agree t u && all_agree ts us

abbrev pub differ : Callable → Callable → Bool
differ f g = not (agree f.result g.result && all_agree f.params g.params)

-- the function of this number has a body
abbrev pub has_body : List FunctionTree → FnId → Bool
has_body functions k = option_map_or (λ g. is_some g.body) (slice_get functions k.0) false

-- the function of this number is declared with other types
abbrev pub has_other_types : Env → FnId → Callable → Bool
has_other_types env k f = option_map_or (λ g. differ g f) (function_at env k) false

abbrev pub clashes_with : Progress → FnId → Callable → Bool → Bool
clashes_with st k f defines = has_other_types st.env k f || (defines && has_body st.functions k)

-- what the name is already doesn't agree with a further declaration or definition
abbrev pub clashes : Progress → Callable → Bool → Option Meaning → Bool
clashes st f defines None = false
clashes st f defines (Some (Function k)) = clashes_with st k f defines
clashes st f defines (Some (Global g)) = true
clashes st f defines (Some (Local v)) = true

abbrev pub is_redeclared : Progress → Callable → Bool → Bool
is_redeclared st f defines = clashes st f defines (find_in st.env.file f.name)

-- the function that the name is already
abbrev pub function_in : Option Meaning → Option FnId
function_in None = None
function_in (Some (Function k)) = Some k
function_in (Some (Global g)) = None
function_in (Some (Local v)) = None

abbrev pub earlier : Progress → Callable → Option FnId
earlier st f = function_in (find_in st.env.file f.name)

-- ---- what a declaration says

-- what stands before the name: the structs behind it, the type of the result, and the faults
pub record Judged : Type 0 where
  pub structs : Structs
  pub ty : «Type»
  pub faults : List TypeFault

abbrev pub result_of : Bool → Structs → parsed.FunctionTree → Judged
result_of privileged structs f =
    let d = f.declarator in
    let j = specified true structs f.specs in
    record {
      structs = j.structs;
      ty = result_type j.given d.pointer d.suffix;
      faults =
          j.faults
          ++ result_faults j.given d.pointer d.suffix d.name.span
          ++ mark_faults (carrier.Function privileged) j.given.attributes;
    }

-- the parameters, in a scope that stays open
abbrev pub params_of_function : FunctionMarks → Env → Structs → parsed.FunctionTree → Declared
params_of_function marks env structs f = declared_all marks (is_some f.body) (opened env) structs (parameters_of f.params)

-- a function whose parameters are the variables
abbrev pub callable_of : Env → List ℕ → «Type» → Callable
callable_of env name ty = record { name = name; result = ty; params = map (λ v. v.ty) env.variables }

-- A declaration of a function: what it calls for, the scope of its parameters, the structs behind it,
-- and the faults.
pub record Head : Type 0 where
  pub callable : Callable
  pub env : Env
  pub structs : Structs
  pub faults : List TypeFault

unfoldable pub head_of : FunctionMarks → Env → Structs → parsed.FunctionTree → Head
head_of marks env structs f =
    let r = result_of marks.privileged structs f in
    let ps = params_of_function marks env r.structs f in
    record {
      callable = callable_of ps.env f.declarator.name.bytes r.ty;
      env = ps.env;
      structs = ps.structs;
      faults = r.faults ++ ps.faults;
    }

-- ---- the entry of a function

abbrev pub var_of : Variable → Var
var_of x = record { name = x.name; span = x.span; ty = object_type_of x.ty; marked = x.marked; unpriv = x.unpriv; holds = None }

-- what a parameter of this type takes; that of a faulty one is any
abbrev pub kind_of : «Type» → ParamKind
kind_of Bad = param.Int int.Int
kind_of Void = param.Int int.Int
kind_of (Int t) = param.Int t
kind_of (Struct n) = param.Int int.Int
kind_of (Array e count) = param.Int int.Int
kind_of (Pointer e fixed) = param.Ptr e fixed

abbrev pub param_of : Marks → «Type» → Param
param_of m t = record { kind = kind_of t; marked = m.marked; declassify = m.declassify }

-- the parameters from number k on
abbrev pub params_of : List Marks → ℕ → List «Type» → List Param
params_of ms k [] = []
params_of ms k (t ∷ ts) = param_of (marks_at ms k) t ∷ params_of ms (k + 1) ts

abbrev pub signature_of : FunctionMarks → Callable → Signature
signature_of marks f = record {
  name = f.name;
  result = result_type_of f.result;
  params = params_of marks.params 0 f.params;
  host = not marks.defined;
  privileged = marks.privileged;
  declassify = marks.declassify;
}

-- as its first declaration has it: its variables are its parameters
abbrev pub entry_of : FunctionMarks → Callable → List Variable → Span → FunctionTree
entry_of marks f variables at = record { signature = signature_of marks f; name = at; vars = map var_of variables; body = None }

-- ---- the declaration

-- the number of a function that was or wasn't declared before
abbrev pub number_in : Progress → Option FnId → ℕ
number_in st None = length st.env.functions
number_in st (Some k) = k.0

-- the function is known from its declarator on, in its own body too (C99 6.2.1p7); here the parameters
-- are its variables
abbrev pub declared_as : FunctionMarks → Progress → Callable → Span → Option FnId → Progress
declared_as marks st f at None = record st { env = with_function st.env f; functions = st.functions ++ entry_of marks f st.env.variables at ∷ [] }
declared_as marks st f at (Some k) = st

abbrev pub declared : FunctionMarks → Progress → Callable → Span → Progress
declared marks st f at = declared_as marks st f at (earlier st f)

-- ---- the definition

-- its name stands where the definition has it
abbrev pub with_parts : FunctionTree → Span → List Var → BodyTree → FunctionTree
with_parts f at vars body = record f { name = at; vars = vars; body = Some body }

-- the function of this number is defined: its name stands at `at`, and these are its variables and its
-- body
abbrev pub with_body : List FunctionTree → ℕ → Span → List Var → BodyTree → List FunctionTree
with_body fs k at vars body = option_map_or (λ f. slice_set fs k (with_parts f at vars body)) (slice_get fs k) fs

-- the most cells that the variables of a function may have together
abbrev pub variables_limit : ℕ
variables_limit = 16384

abbrev pub are_too_large : Structs → List Variable → Bool
are_too_large structs variables = nat_lt variables_limit (sum_by (λ v. cells_of structs v.ty) variables)

-- a definition of main that a program can begin with (C99 5.1.2.2.1)
abbrev pub is_int : «Type» → Bool
is_int Bad = false
is_int Void = false
is_int (Int t) = is_same_int t int.Int
is_int (Struct n) = false
is_int (Array e count) = false
is_int (Pointer e fixed) = false

abbrev pub is_start : Callable → Bool → Bool
is_start f defines = bytes_eq f.name (codes "main") && (defines && (is_int f.result && nat_eq (length f.params) 0))

-- behind a function its scopes and variables are gone
abbrev pub behind_body : Progress → ℕ → Span → Span → CheckedAll → Progress
behind_body st k at s all = record {
  env = without_variables all.state.env;
  structs = all.state.structs;
  functions = with_body st.functions k at (map var_of all.state.env.variables) (block s (body_trees all.bodies));
  globals = st.globals;
  cells = st.cells;
  exprs = st.exprs ++ all.trees;
  has_main = st.has_main;
}

abbrev pub behind_prototype : Progress → Progress
behind_prototype st = record st { env = without_variables st.env }

-- the program behind an item, and the faults in the item
pub record Checked : Type 0 where
  pub progress : Progress
  pub faults : List TypeFault

-- the body of function number k; too many cells are a fault at the function's name
abbrev pub defined : Progress → ℕ → «Type» → Span → BlockTree → Checked
defined st k result at b =
    let all = block_in result st.env st.structs (length st.exprs) b.items in
    record {
      progress = behind_body st k at b.span all;
      faults = all.faults ++ fault_if (are_too_large all.state.structs all.state.env.variables) TooLarge at;
    }

-- the same, where there is a body
abbrev pub with_definition : Progress → ℕ → «Type» → Span → Option BlockTree → Checked
with_definition st k result at None = record { progress = behind_prototype st; faults = [] }
with_definition st k result at (Some b) = defined st k result at b

-- behind the declarator, where the parameters' scope is open
abbrev pub with_head : Progress → Head → Progress
with_head st h = record {
  env = h.env;
  structs = h.structs;
  functions = st.functions;
  globals = st.globals;
  cells = st.cells;
  exprs = st.exprs;
  has_main = st.has_main;
}

-- it may be main, with which a program begins
abbrev pub with_start : Progress → Callable → Bool → Progress
with_start st f defines = record st { has_main = is_start f defines || st.has_main }

-- behind the declarator of a function that is so called
unfoldable pub completed : FunctionMarks → Progress → Callable → parsed.FunctionTree → Checked
completed marks st f function =
    let at = function.declarator.name.span in
    let c = with_definition (declared marks st f at) (number_in st (earlier st f)) f.result at function.body in
    record { progress = c.progress; faults = fault_if (is_redeclared st f (is_some function.body)) Redeclared at ++ c.faults }

-- a function's declaration or definition
abbrev pub checked_function : FunctionMarks → Progress → parsed.FunctionTree → Checked
checked_function marks st f =
    let h = head_of marks st.env st.structs f in
    let c = completed marks (with_start (with_head st h) h.callable (is_some f.body)) h.callable f in
    record { progress = c.progress; faults = h.faults ++ c.faults }
