-- What the names of a half's text mean where its statements stand.
use Rattle.std.specs.Prelude.{◌≡◌, ◌<◌, ℕ, List, Option, Some, None, IsTrue, false, not, length, nat_eq, map}
use Rattle.std.specs.Map.{lookup}
use Rattle.pt_base.specs.declared.int_type.IntType.{IntType}
use Rattle.pt_tree.specs.declared.signature.Signature.{Signature}
use Rattle.type_rules.specs.declared.types.Type.{«Type»}
use Rattle.type_rules.specs.declared.types.Type.TheVariants as ty
use Rattle.typed_tree.specs.declared.types.VarTy.{VarTy}
use Rattle.typed_tree.specs.declared.types.VarTy.TheVariants.{Int, Struct, Array, Pointer}
use Rattle.typed_tree.specs.Sizes.{fields_of}
use Rattle.typed_tree.specs.WellFormedExpression as m
use Rattle.typed_tree.specs.WellFormedExpression.{param_type}
use Rattle.check_declarations.specs.declared.structs.FieldEntry.{FieldEntry}
use Rattle.check_declarations.specs.Structs.{Structs, field_named, has_const_part}
use Rattle.check_expressions.specs.declared.meaning.Callable.{Callable}
use Rattle.check_expressions.specs.declared.meaning.Meaning.TheVariants.{Function, Global, Local}
use Rattle.check_expressions.specs.declared.meaning.Object.{Object}
use Rattle.check_expressions.specs.Environment.{Env, find, global_at, variable_at, function_at}
use Rattle.check_expressions.specs.Postfixes.{is_main}
use Rattle.pt_core.specs.Types.{type_at, field_type}
use Rattle.half_trees.specs.Names.{local_name, global_name, function_name, field_by}
use Rattle.half_meaning_law.specs.Relations.{Scene, is_pointer}
pub use Rattle.pt_base.specs.Ids.{function_id, global_id, var_id as local_id}

-- a type as the judgments have it
abbrev pub type_as : VarTy → «Type»
type_as (Int t) = ty.Int t
type_as (Struct n) = ty.Struct n
type_as (Array elem count) = ty.Array elem count
type_as (Pointer elem fixed) = ty.Pointer elem fixed

-- an object of this type, which isn't const
abbrev pub object_as : VarTy → Object
object_as t = record { ty = type_as t; fixed = false }

pub record VariableKnown (s : Scene) (env : Env) (v : ℕ) : Type 0 where
  pub named : find env (local_name v) ≡ Some (Local (local_id v))
  pub object : variable_at env (local_id v) ≡ object_as (type_at s.context.variables v)

-- a global with its place in the text
pub record GlobalKnown (s : Scene) (env : Env) (g : ℕ) (ty : VarTy) : Type 0 where
  pub place : ℕ
  pub number : s.global_number place ≡ g
  pub named : find env (global_name g) ≡ Some (Global (global_id place))
  pub object : global_at env (global_id place) ≡ object_as ty
  pub typed : type_at s.globals place ≡ ty
  pub plain : is_pointer ty ≡ false

pub record FieldKnown (s : Scene) (structs : Structs) (n k : ℕ) : Type 0 where
  pub entry : FieldEntry
  pub named : field_named structs n (field_by (fields_of s.context.structs n) k) ≡ Some (record { number = k; entry = entry })
  pub typed : entry.ty ≡ type_as (field_type s.context.structs (Struct n) k)
  pub changes : entry.fixed ≡ false
  pub plain : is_pointer (field_type s.context.structs (Struct n) k) ≡ false

-- each variable, global and field is known under its name, and none is const
pub record Known (s : Scene) (env : Env) (structs : Structs) : Type 0 where
  pub variables : (v : ℕ) → v < length s.context.variables → VariableKnown s env v
  pub globals : (g : ℕ) (ty : VarTy) → lookup (nat_eq g) s.context.globals ≡ Some ty → GlobalKnown s env g ty
  pub fields : (n k : ℕ) → k < length (fields_of s.context.structs n) → FieldKnown s structs n k
  pub no_const : (n : ℕ) → has_const_part structs n ≡ false

-- ---- functions

abbrev pub result_as : Option IntType → «Type»
result_as None = ty.Void
result_as (Some t) = ty.Int t

-- a function with its place in the text, which may be called
pub record FunctionKnown (s : Scene) (names : List (ℕ × Signature)) (env : Env) (f : ℕ) (signature : Signature) : Type 0 where
  pub place : ℕ
  pub number : s.function_number place ≡ f
  pub named : find env (function_name names f) ≡ Some (Function (function_id place))
  pub callable : Callable
  pub known : function_at env (function_id place) ≡ Some callable
  pub no_main : is_main callable.name ≡ false
  pub params : callable.params ≡ map (λ p. type_as (param_type p.kind)) signature.params
  pub result : callable.result ≡ result_as signature.result

-- each function that may be called is known under its name
abbrev pub FunctionsKnown : Scene → List (ℕ × Signature) → (ℕ → Option Signature) → Env → Type 0
FunctionsKnown s names called env = (f : ℕ) (signature : Signature) → called f ≡ Some signature → IsTrue (not (m.is_main signature)) → FunctionKnown s names env f signature
