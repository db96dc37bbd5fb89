-- What names mean while a program is judged agrees with the entries of its typed tree.
use Rattle.std.specs.Prelude.{◌≡◌, ℕ, ◌++◌, Bool, Option, Some, IsTrue, All, length, map, slice_get, nat_lt, option_map}
use Rattle.std.specs.List.{list_all}
use Rattle.pt_tree.specs.declared.signature.Param.{Param}
use Rattle.pt_tree.specs.declared.signature.Signature.{Signature}
use Rattle.type_rules.specs.declared.types.Type.{«Type»}
use Rattle.typed_tree.specs.declared.types.VarTy.{VarTy}
use Rattle.typed_tree.specs.declared.types.VarTy.TheVariants as v
use Rattle.typed_tree.specs.WellFormedExpression.{Names, param_type}
use Rattle.check_declarations.specs.Structs.{Structs}
use Rattle.check_expressions.specs.declared.meaning.Meaning.{Meaning}
use Rattle.check_expressions.specs.declared.meaning.Meaning.TheVariants.{Function, Global, Local}
use Rattle.check_expressions.specs.declared.meaning.Object.{Object}
use Rattle.check_expressions.specs.declared.meaning.Variable.{Variable}
use Rattle.check_expressions.specs.declared.meaning.Callable.{Callable}
use Rattle.check_expressions.specs.Environment.{Env, Scope}
use Rattle.check_expressions.specs.Operands.{var_type}
use Rattle.check_expressions.specs.StructInfos.{infos_of}
use Rattle.type_law.specs.DeclarationsTypes.{is_variable, is_parameter, is_result}
use Rattle.type_law.specs.DeclarationsSound.{SoundStructs}

-- the entry, if there is one, has this good type
abbrev pub HasType : ℕ → «Type» → Option VarTy → Type 0
HasType structs ty entry = IsTrue (is_variable structs ty) × (entry ≡ var_type ty)

-- a parameter's type as that of a variable
abbrev pub taken : Param → Option VarTy
taken p = Some (param_type p.kind)

-- the entry, if there is one, is called as the function is
pub record HasCallable (structs : ℕ) (c : Callable) (entry : Option Signature) : Type 0 where
  pub signature : Signature
  pub is : entry ≡ Some signature
  pub name : signature.name ≡ c.name
  pub result : IsTrue (is_result c.result)
  pub gives : option_map v.Int signature.result ≡ var_type c.result
  pub params : IsTrue (list_all (is_parameter structs) c.params)
  pub takes : map taken signature.params ≡ map var_type c.params

-- the number of a meaning is that of an entry
abbrev pub is_entry : Env → Meaning → Bool
is_entry env (Function f) = nat_lt f.0 (length env.functions)
is_entry env (Global g) = nat_lt g.0 (length env.globals)
is_entry env (Local x) = nat_lt x.0 (length env.variables)

abbrev pub AreEntries : Env → Scope → Type 0
AreEntries env scope = All (λ entry. IsTrue (is_entry env entry.1)) scope

-- The names of a function in the typed tree have the structs, globals, functions and variables that are
-- known where an expression stands, in their order, and a global is const where it is known as const; more
-- may follow, as later declarations add them.
pub record Agrees (env : Env) (structs : Structs) (n : Names) : Type 0 where
  pub more : Structs
  pub sound : SoundStructs (structs ++ more)
  pub structs_are : n.structs ≡ infos_of (structs ++ more)
  pub functions : (k : ℕ) (c : Callable) → slice_get env.functions k ≡ Some c → HasCallable (length structs) c (slice_get n.signatures k)
  pub globals : (k : ℕ) (o : Object) → slice_get env.globals k ≡ Some o → HasType (length structs) o.ty (option_map (λ g. g.var.ty) (slice_get n.globals k))
  pub fixed : (k : ℕ) (o : Object) → slice_get env.globals k ≡ Some o → option_map (λ g. g.fixed) (slice_get n.globals k) ≡ Some o.fixed
  pub variables : (k : ℕ) (x : Variable) → slice_get env.variables k ≡ Some x → HasType (length structs) x.ty (option_map (λ y. y.ty) (slice_get n.vars k))
  pub file : AreEntries env env.file
  pub scopes : All (AreEntries env) env.scopes
