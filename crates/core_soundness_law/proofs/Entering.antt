-- A function is entered with arguments that fit its parameters.
use Rattle.std.proofs.Common.{◌≡◌, ◌∙◌, ◌≤◌, ℕ, suc, ◌+◌, refl, ap, sym, subst, arith, Bool, true, false, Some, List, [], ◌∷◌, map, if◌then◌else◌}
use Rattle.std.specs.Prelude.{IsTrue, ◌&&◌, slice_get}
use Rattle.pt_base.proofs.Booleans.{both_hold_first, both_hold_second, false_not_true}
use Rattle.pt_tree.specs.declared.signature.Param.{Param}
use Rattle.pt_tree.specs.declared.signature.ParamKind.{ParamKind}
use Rattle.pt_tree.specs.declared.signature.ParamKind.TheVariants as kind
use Rattle.typed_tree.specs.declared.types.VarTy.{VarTy}
use Rattle.typed_tree.specs.declared.types.VarTy.TheVariants.{Int, Struct, Array, Pointer}
use Rattle.typed_tree.specs.declared.types.StructInfo.{StructInfo}
use Rattle.typed_tree.specs.declared.variable.Var.{Var}
use Rattle.typed_tree.specs.TypeTests.{same_type, same_bool, is_scalar}
use Rattle.typed_tree.specs.WellFormed.{params_lead}
use Rattle.typed_tree.specs.WellFormedExpression.{param_type}
use Rattle.block_memory.specs.declared.cell.Cell.{Cell}
use Rattle.block_memory.specs.declared.cell.BlockName.{BlockName}
use Rattle.block_memory.specs.declared.cell.BlockName.TheVariants.{Local}
use Rattle.block_memory.specs.Block.{with_cell}
use Rattle.block_memory.specs.Blocks.{Blocks, is_same_name}
use Rattle.block_memory.proofs.BlocksLemmas.{same_name}
use Rattle.pt_core.specs.CodeTree.{ProgramTree}
use Rattle.pt_core.specs.Values.{written}
use Rattle.pt_core.specs.Calls.{context_in, with_arguments}
use Rattle.pt_core.specs.Steps.{Active}
use Rattle.core_soundness_law.specs.Kept.{Kept}
use Rattle.core_soundness_law.specs.Fits.{ValueFits, BlockFits, LocalFits, variables_at, MemoryFits}
use Rattle.core_soundness_law.specs.Laws.{LocationFits}
use Rattle.core_soundness_law.specs.Outside.{ArgumentsFit}
use Rattle.typed_tree.proofs.SameTypes.{equal_types}
use Rattle.core_soundness_law.proofs.Objects.{variable_lies}
use Rattle.core_soundness_law.proofs.Memory.{SameTypes, pointer_stays, pointer_deeper}
use Rattle.core_soundness_law.proofs.Settings.{same_depth}
use Rattle.core_soundness_law.proofs.Stores.{stored}

-- ---- values as memory changes

pub value_stays : (kept : Kept) (structs : List StructInfo) (blocks others : Blocks) (depth : ℕ) (ty : VarTy) (v : Cell) → SameTypes blocks others depth → ValueFits kept structs blocks depth ty v → ValueFits kept structs others depth ty v
value_stays kept structs blocks others depth (Int t) v same f = f
value_stays kept structs blocks others depth (Struct n) v same f = f
value_stays kept structs blocks others depth (Array elem count) v same f = f
value_stays kept structs blocks others depth (Pointer elem fixed) v same f = pointer_stays structs blocks others depth elem v same f

pub value_deeper : (kept : Kept) (structs : List StructInfo) (blocks : Blocks) (depth deeper : ℕ) (ty : VarTy) (v : Cell) → depth ≤ deeper → ValueFits kept structs blocks depth ty v → ValueFits kept structs blocks deeper ty v
value_deeper kept structs blocks depth deeper (Int t) v less f = f
value_deeper kept structs blocks depth deeper (Struct n) v less f = f
value_deeper kept structs blocks depth deeper (Array elem count) v less f = f
value_deeper kept structs blocks depth deeper (Pointer elem fixed) v less f = pointer_deeper structs blocks depth deeper elem v less f

pub arguments_stay : (kept : Kept) (structs : List StructInfo) (blocks others : Blocks) (depth : ℕ) (ps : List Param) (vs : List Cell) → SameTypes blocks others depth → ArgumentsFit kept structs blocks depth ps vs → ArgumentsFit kept structs others depth ps vs
arguments_stay kept structs blocks others depth [] [] same f = f
arguments_stay kept structs blocks others depth [] (v ∷ vs) same f = f
arguments_stay kept structs blocks others depth (p ∷ ps) [] same f = f
arguments_stay kept structs blocks others depth (p ∷ ps) (v ∷ vs) same f = (value_stays kept structs blocks others depth (param_type p.kind) v same f.0, arguments_stay kept structs blocks others depth ps vs same f.1)

pub arguments_deeper : (kept : Kept) (structs : List StructInfo) (blocks : Blocks) (depth deeper : ℕ) (ps : List Param) (vs : List Cell) → depth ≤ deeper → ArgumentsFit kept structs blocks depth ps vs → ArgumentsFit kept structs blocks deeper ps vs
arguments_deeper kept structs blocks depth deeper [] [] less f = f
arguments_deeper kept structs blocks depth deeper [] (v ∷ vs) less f = f
arguments_deeper kept structs blocks depth deeper (p ∷ ps) [] less f = f
arguments_deeper kept structs blocks depth deeper (p ∷ ps) (v ∷ vs) less f = (value_deeper kept structs blocks depth deeper (param_type p.kind) v less f.0, arguments_deeper kept structs blocks depth deeper ps vs less f.1)

same_written : (blocks : Blocks) (name : BlockName) (n : ℕ) (c : Cell) (depth : ℕ) → SameTypes blocks (written blocks name n c) depth
same_written blocks name n c depth b near = go (is_same_name name b) refl
  where
    go : (t : Bool) → is_same_name name b ≡ t → (blocks b).types ≡ (if t then with_cell (blocks name) n c else blocks b).types
    go true h = ap (λ k. (blocks k).types) (sym (same_name name b h))
    go false h = refl

-- ---- arguments lie in the first variables

-- the variables from this one on have the types of the parameters
abbrev pub Lead : List VarTy → ℕ → List Param → Type 0
Lead variables v [] = Unit {0}
Lead variables v (p ∷ ps) = (slice_get variables v ≡ Some (param_type p.kind)) × Lead variables (v + 1) ps

scalar_param : (p : Param) → IsTrue (is_scalar (Some (param_type p.kind)))
scalar_param p = go p.kind
  where
    go : (k : ParamKind) → IsTrue (is_scalar (Some (param_type k)))
    go (kind.Int t) = refl
    go (kind.Ptr elem fixed) = refl

pub arguments_entered : (kept : Kept) (program : ProgramTree) (a : Active) (rest : List Active) (blocks : Blocks) (v : ℕ) (ps : List Param) (vs : List Cell) → MemoryFits kept program (a ∷ rest) blocks → Lead (context_in program a.function).variables v ps →
    ArgumentsFit kept program.structs blocks a.depth ps vs → MemoryFits kept program (a ∷ rest) (with_arguments blocks a.depth v vs)
arguments_entered kept program a rest blocks v [] [] mem lead f = mem
arguments_entered kept program a rest blocks v [] (x ∷ vs) mem lead f = elim f [ ]
arguments_entered kept program a rest blocks v (p ∷ ps) [] mem lead f = elim f [ ]
arguments_entered kept program a rest blocks v (p ∷ ps) (x ∷ vs) mem lead f =
    let ty : VarTy = param_type p.kind in
    let own : BlockFits kept program.structs blocks a.depth ty (blocks (Local a.depth v)) =
    subst (λ o. LocalFits kept program.structs blocks a.depth o (blocks (Local a.depth v)))
    (ap (λ tys. slice_get tys v) (same_depth a.depth (context_in program a.function).variables (variables_at program rest a.depth)) ∙ lead.0) (mem.locals a.depth v) in
    let at : LocationFits (context_in program a.function) blocks a.depth ty (record { block = Local a.depth v; cell = 0; ty = ty }) =
    record { typed = refl; lies = variable_lies kept (context_in program a.function) blocks a.depth v ty lead.0 own } in
    arguments_entered kept program a rest (written blocks (Local a.depth v) 0 x) (v + 1) ps vs
    (stored kept program a rest blocks mem ty (record { block = Local a.depth v; cell = 0; ty = ty }) x (scalar_param p) at f.0) lead.1
    (arguments_stay kept program.structs blocks (written blocks (Local a.depth v) 0 x) a.depth ps vs (same_written blocks (Local a.depth v) 0 x a.depth) f.1)

-- parameters lead where the code's test says so
pub leads : (ps : List Param) (xs : List Var) (all : List VarTy) (v : ℕ) → ((k : ℕ) → slice_get (map (λ x. x.ty) xs) k ≡ slice_get all (v + k)) → IsTrue (params_lead ps xs) → Lead all v ps
leads [] xs all v same h = tt {0}
leads (p ∷ ps) [] all v same h = false_not_true h
leads (p ∷ ps) (x ∷ xs) all v same h =
    let here : IsTrue (same_type (param_type p.kind) x.ty && same_bool p.marked x.marked) = both_hold_first (same_type (param_type p.kind) x.ty && same_bool p.marked x.marked) (params_lead ps xs) h in
    let type : param_type p.kind ≡ x.ty = equal_types (param_type p.kind) x.ty (both_hold_first (same_type (param_type p.kind) x.ty) (same_bool p.marked x.marked) here) in (
      ap (λ k. slice_get all k) (plus_zero v) ∙ sym (same 0) ∙ ap Some (sym type),
      leads ps xs all (v + 1) (λ k. same (suc k) ∙ ap (λ j. slice_get all j) (moved v k)) (both_hold_second (same_type (param_type p.kind) x.ty && same_bool p.marked x.marked) (params_lead ps xs) h),
    )
  where
    plus_zero : (v : ℕ) → v ≡ v + 0
    plus_zero v = omega arith

    moved : (v k : ℕ) → v + suc k ≡ v + 1 + k
    moved v k = omega arith
