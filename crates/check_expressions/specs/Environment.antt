-- What names mean where an expression stands (C99 6.2.1): the names of the file, and the scopes of a
-- function, the innermost first.
use Rattle.std.specs.Prelude.{ℕ, List, [], ◌∷◌, ◌++◌, Bool, false, Option, Some, None, length, slice_get}
use Rattle.std.specs.Option.{option_map_or}
use Rattle.pt_base.specs.declared.ids.FnId.{FnId}
use Rattle.pt_base.specs.declared.ids.GlobalId.{GlobalId}
use Rattle.pt_base.specs.declared.ids.VarId.{VarId}
use Rattle.type_rules.specs.declared.types.Type.TheVariants.{Bad}
use Rattle.check_declarations.specs.NameTables.{Named, number_of, value_at, is_new, with_name}
use Rattle.check_expressions.specs.declared.meaning.Meaning.{Meaning}
use Rattle.check_expressions.specs.declared.meaning.Meaning.TheVariants.{Function, Global, Local}
use Rattle.check_expressions.specs.declared.meaning.Object.{Object}
use Rattle.check_expressions.specs.declared.meaning.Variable.{Variable}
use Rattle.check_expressions.specs.declared.meaning.Callable.{Callable}

-- names with what they mean, in the order of their declarations; of two of one name the first stays
abbrev pub Scope : Type 0
Scope = Named Meaning

pub record Env : Type 0 where
  -- the functions and globals of the file
  pub file : Scope
  pub functions : List Callable
  pub globals : List Object
  -- the scopes of the function, the innermost first, and its variables
  pub scopes : List Scope
  pub variables : List Variable

-- ---- look-up

-- the meaning with this number, where there is one
abbrev pub meaning_at : Scope → Option ℕ → Option Meaning
meaning_at scope None = None
meaning_at scope (Some k) = value_at scope k

abbrev pub find_in : Scope → List ℕ → Option Meaning
find_in scope name = meaning_at scope (number_of scope name)

abbrev pub or_else : Option Meaning → Option Meaning → Option Meaning
or_else (Some m) o = Some m
or_else None o = o

-- the innermost scope that has the name decides, and last the file
abbrev pub find_through : List Scope → Scope → List ℕ → Option Meaning
find_through [] file name = find_in file name
find_through (scope ∷ scopes) file name = or_else (find_in scope name) (find_through scopes file name)

-- what a name means
abbrev pub find : Env → List ℕ → Option Meaning
find env name = find_through env.scopes env.file name

-- an object that no declaration has; its uses have no fault
abbrev pub no_object : Object
no_object = record { ty = Bad; fixed = false }

abbrev pub object_of : Variable → Object
object_of v = record { ty = v.ty; fixed = v.fixed }

abbrev pub global_at : Env → GlobalId → Object
global_at env g = option_map_or (λ o. o) (slice_get env.globals g.0) no_object

abbrev pub variable_at : Env → VarId → Object
variable_at env v = option_map_or object_of (slice_get env.variables v.0) no_object

abbrev pub function_at : Env → FnId → Option Callable
function_at env f = slice_get env.functions f.0

-- ---- declarations

abbrev pub opened : Env → Env
opened env = record env { scopes = [] ∷ env.scopes }

abbrev pub outer : List Scope → List Scope
outer [] = []
outer (scope ∷ scopes) = scopes

abbrev pub closed : Env → Env
closed env = record env { scopes = outer env.scopes }

abbrev pub bind_inner : List Scope → List ℕ → Meaning → List Scope
bind_inner [] name m = []
bind_inner (scope ∷ scopes) name m = with_name scope name m ∷ scopes

-- the innermost scope doesn't have the name
abbrev pub is_new_inside : List Scope → List ℕ → Bool
is_new_inside [] name = false
is_new_inside (scope ∷ scopes) name = is_new scope name

-- a variable more, which the innermost scope names
abbrev pub with_variable : Env → Variable → Env
with_variable env v = record env { scopes = bind_inner env.scopes v.name (Local (record { 0 = length env.variables })); variables = env.variables ++ v ∷ [] }

-- a variable that nothing names
abbrev pub with_unnamed : Env → Variable → Env
with_unnamed env v = record env { variables = env.variables ++ v ∷ [] }

abbrev pub with_function : Env → Callable → Env
with_function env f = record env { file = with_name env.file f.name (Function (record { 0 = length env.functions })); functions = env.functions ++ f ∷ [] }

abbrev pub with_global : Env → List ℕ → Object → Env
with_global env name o = record env { file = with_name env.file name (Global (record { 0 = length env.globals })); globals = env.globals ++ o ∷ [] }

-- nothing is declared
abbrev pub no_names : Env
no_names = record { file = []; functions = []; globals = []; scopes = []; variables = [] }

-- the function has ended: its scopes and variables are gone
abbrev pub without_variables : Env → Env
without_variables env = record env { scopes = []; variables = [] }
