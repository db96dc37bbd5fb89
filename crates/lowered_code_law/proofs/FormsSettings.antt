-- Where a function's code stands: what the expressions of its source name, and what the numbers of its
-- code name. Its temporaries are among the variables of its code.
use Rattle.std.specs.Prelude.{◌≡◌, ℕ, ◌+◌, List, [], ◌∷◌, Option, Some, Bool, true, ◌&&◌, map, length, slice_get, option_map, nat_eq}
use Rattle.std.specs.List.{list_all}
use Rattle.std.specs.Map.{lookup}
use Rattle.pt_base.specs.declared.int_type.IntType.{IntType}
use Rattle.pt_tree.specs.declared.signature.Signature.{Signature}
use Rattle.typed_tree.specs.declared.types.VarTy.{VarTy}
use Rattle.typed_tree.specs.declared.types.StructInfo.{StructInfo}
use Rattle.typed_tree.specs.declared.variable.Var.{Var}
use Rattle.typed_tree.specs.declared.variable.TypedGlobal.{TypedGlobal}
use Rattle.typed_tree.specs.TypeTests.{is_scalar}
use Rattle.typed_tree.specs.WellFormedExpression.{Names}
use Rattle.typed_tree.specs.WellFormed.{is_variable_type, structs_sound, variable_sound, global_sound}
use Rattle.pt_core.specs.CodeTree.{ExprTree, PlaceTree, place, deref, StmtTree}
use Rattle.pt_core.specs.Types.{Context, type_of, place_type}
use Rattle.pt_core.specs.WellFormedExpression.{stands_for, expr_fits, place_fits}
use Rattle.pt_core.specs.WellFormedStatement.{Scope, stmt_fits}
use Rattle.lowering.specs.Expressions as lower
use Rattle.lowering.specs.Lowered.{Temp, Lowered, LoweredPlace}

pub record Setting : Type 0 where
  -- of the source
  pub names : Names
  -- of the code: its globals, its variables, the result of its function, and what is called
  pub globals : List (ℕ × VarTy)
  pub variables : List VarTy
  pub result : Option IntType
  pub called : ℕ → Option Signature

-- what expressions are lowered with
abbrev pub source : Names → lower.Scope
source n = record { structs = n.structs; globals = map (λ (g : TypedGlobal). g.var.ty) n.globals; variables = map (λ (x : Var). x.ty) n.vars }

abbrev pub context : Setting → Context
context w = record { structs = w.names.structs; globals = w.globals; variables = w.variables }

abbrev pub scope : Setting → Scope
scope w = record { context = context w; result = w.result; called = w.called }

-- the code's numbers name what the source's do, and the source is sound
pub record Agrees (w : Setting) : Type 0 where
  pub variables : (x : ℕ) (ty : VarTy) → option_map (λ (y : Var). y.ty) (slice_get w.names.vars x) ≡ Some ty → slice_get w.variables x ≡ Some ty
  pub globals : (g : ℕ) (ty : VarTy) → option_map (λ (y : TypedGlobal). y.var.ty) (slice_get w.names.globals g) ≡ Some ty → lookup (nat_eq g) w.globals ≡ Some ty
  pub calls : (f : ℕ) → w.called f ≡ slice_get w.names.signatures f
  pub structs : structs_sound w.names.structs 0 w.names.structs ≡ true
  pub vars : list_all (variable_sound w.names.structs) w.names.vars ≡ true
  pub plain : list_all (global_sound w.names.structs) w.names.globals ≡ true

-- ---- temporaries

-- these temporaries are the variables from this number on
abbrev pub Stand : List VarTy → ℕ → List Temp → Type 0
Stand vs k [] = Unit {0}
Stand vs k (x ∷ xs) = (slice_get vs k ≡ Some x.ty) × Stand vs (k + 1) xs

-- an integer, or a pointer to what there is
abbrev pub is_known : List StructInfo → VarTy → Bool
is_known structs ty = is_scalar (Some ty) && is_variable_type (length structs) ty

abbrev pub Known : List StructInfo → List Temp → Type 0
Known structs [] = Unit {0}
Known structs (x ∷ xs) = (is_known structs x.ty ≡ true) × Known structs xs

-- ---- what is lowered

abbrev pub Fit : Scope → Bool → List StmtTree → Type 0
Fit k looped [] = Unit {0}
Fit k looped (x ∷ xs) = (stmt_fits k looped x ≡ true) × Fit k looped xs

-- a value that may stand where one of this type is wanted
pub record ValueFits (c : Context) (ty : VarTy) (a : ExprTree) : Type 0 where
  pub fits : expr_fits c a ≡ true
  pub type : stands_for (type_of c a) ty ≡ true

pub record EffectsFit (w : Setting) (looped : Bool) (xs : List StmtTree) (ts : List Temp) : Type 0 where
  pub stmts : Fit (scope w) looped xs
  pub temps : Known w.names.structs ts

pub record LoweredFits (w : Setting) (looped : Bool) (ty : VarTy) (v : Lowered) : Type 0 where
  pub stmts : Fit (scope w) looped v.stmts
  pub value : ValueFits (context w) ty v.value
  pub temps : Known w.names.structs v.temps
  pub known : is_variable_type (length w.names.structs) ty ≡ true

-- a temporary that would hold the pointer through which a place leads
abbrev pub Leads : Setting → PlaceTree → Option Temp → Type 0
Leads w (place (deref a s) path) (Some x) = (stands_for (type_of (context w) a) x.ty ≡ true) × (is_known w.names.structs x.ty ≡ true)
Leads w _ _ = Unit {0}

pub record PlaceFits (w : Setting) (looped : Bool) (ty : VarTy) (p : LoweredPlace) : Type 0 where
  pub stmts : Fit (scope w) looped p.stmts
  pub place : place_fits (context w) p.place ≡ true
  pub type : place_type (context w) p.place ≡ ty
  pub own : p.ty ≡ ty
  pub through : Leads w p.place p.through
  pub temps : Known w.names.structs p.temps
  pub known : is_variable_type (length w.names.structs) ty ≡ true
