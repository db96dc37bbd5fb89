-- What a half of a checked program has besides being sound, so that its text declares what the half has: names
-- that differ in the text, numbers that are printed whole, and marks where they may stand.
use Rattle.std.specs.Prelude.{ℕ, ◌^◌, Bool, true, false, ◌&&◌, ◌||◌, not, List, Option, None, Some, IsTrue, length, map, take, nat_le, nat_lt, sum_by, is_some}
use Rattle.std.specs.List.{list_all, list_any, range_with_len}
use Rattle.pt_tree.specs.declared.signature.Param.{Param}
use Rattle.pt_tree.specs.declared.signature.ParamKind.{ParamKind}
use Rattle.pt_tree.specs.declared.signature.ParamKind.TheVariants as k
use Rattle.pt_tree.specs.declared.signature.Signature.{Signature}
use Rattle.typed_tree.specs.declared.types.StructInfo.{StructInfo}
use Rattle.typed_tree.specs.declared.types.VarTy.{VarTy}
use Rattle.typed_tree.specs.declared.types.VarTy.TheVariants.{Int, Struct, Array, Pointer}
use Rattle.typed_tree.specs.declared.variable.Var.{Var}
use Rattle.typed_tree.specs.Cells.{cells_of}
use Rattle.typed_tree.specs.WellFormed.{are_distinct}
use Rattle.pt_core.specs.CodeTree.{GlobalTree, FunctionTree, ProgramTree}
use Rattle.pt_core.specs.WellFormed.{signature_at, function_at}
use Rattle.half_trees.specs.Names.{struct_name, field_by, function_by}
pub use Rattle.pt_tree.specs.Signatures.{is_out as is_mutable}

-- ---- names

-- the names that the text gives structs, the fields of one struct, and functions
abbrev pub struct_names : List StructInfo → List (List ℕ)
struct_names structs = map (struct_name structs) (range_with_len 0 (length structs))

abbrev pub field_names : StructInfo → List (List ℕ)
field_names s = map (field_by s.fields) (range_with_len 0 (length s.fields))

abbrev pub function_names : ProgramTree → List (List ℕ)
function_names p = map (λ s. function_by s.0 (Some s.1)) p.signatures

-- ---- marks

-- a privileged function alone may be marked `declassify`, and of its parameters those that it may write through
abbrev pub param_marked : Signature → Param → Bool
param_marked s x = not x.declassify || (s.privileged && is_mutable x.kind)

abbrev pub signature_marked : Signature → Bool
signature_marked s = (not s.declassify || s.privileged) && list_all (param_marked s) s.params

-- a global isn't marked both `priv` and `unpriv`
abbrev pub variable_marked : Var → Bool
variable_marked x = not (x.marked && x.unpriv)

-- no parameter of a privileged function is marked `unpriv`
abbrev pub parameters_marked : List Var → Option Signature → Bool
parameters_marked vars None = true
parameters_marked vars (Some s) = not s.privileged || not (list_any (λ x. x.unpriv) vars)

abbrev pub function_marked : ProgramTree → FunctionTree → Bool
function_marked p f = parameters_marked (take f.params f.vars) (signature_at p f.id)

abbrev pub global_marked : GlobalTree → Bool
global_marked g = variable_marked g.var

-- ---- all together

pub record Declarable (p : ProgramTree) : Type 0 where
  pub structs : IsTrue (are_distinct (struct_names p.structs))
  pub fields : IsTrue (list_all (λ s. are_distinct (field_names s)) p.structs)
  pub functions : IsTrue (are_distinct (function_names p))
  -- numbers of globals and of variables, as they are printed
  pub globals : IsTrue (list_all (λ g. nat_lt g.id (2 ^ 64)) p.globals)
  pub variables : IsTrue (list_all (λ f. nat_le (length f.vars) (2 ^ 64)) p.functions)
  pub signature_marks : IsTrue (list_all (λ s. signature_marked s.1) p.signatures)
  pub global_marks : IsTrue (list_all global_marked p.globals)
  pub function_marks : IsTrue (list_all (function_marked p) p.functions)

-- ---- what is said apart

-- no more cells than the type judgments let the variables of a function have
abbrev pub variable_cells : List StructInfo → VarTy → ℕ
variable_cells structs (Int t) = 1
variable_cells structs (Struct n) = cells_of structs (Struct n)
variable_cells structs (Array elem count) = cells_of structs (Array elem count)
variable_cells structs (Pointer elem fixed) = 1

abbrev pub has_small_frame : ProgramTree → FunctionTree → Bool
has_small_frame p f = nat_le (sum_by (λ x. variable_cells p.structs x.ty) f.vars) 16_384

-- a function that the half only declares takes no pointer
abbrev pub is_pointer_kind : ParamKind → Bool
is_pointer_kind (k.Int t) = false
is_pointer_kind (k.Ptr elem fixed) = true

abbrev pub takes_no_pointer : Signature → Bool
takes_no_pointer s = list_all (λ x. not (is_pointer_kind x.kind)) s.params

abbrev pub prototypes_take_no_pointers : ProgramTree → Bool
prototypes_take_no_pointers p = list_all (λ s. is_some (function_at p s.0) || takes_no_pointer s.1) p.signatures
