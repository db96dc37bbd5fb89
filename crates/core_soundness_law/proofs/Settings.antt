-- What the innermost function sees, where the memory fits.
use Rattle.std.proofs.Common.{◌≡◌, ◌∙◌, ℕ, zero, suc, pos, nat_eq, refl, ap, sym, subst, Bool, Option, Some, None, List, [], ◌∷◌, length, if◌then◌else◌}
use Rattle.std.specs.Prelude.{IsTrue, ◌&&◌, slice_get, slice_index_or}
use Rattle.std.specs.List.{list_all}
use Rattle.std.specs.Map.{lookup}
use Rattle.std.proofs.lemmas.Bool.{eq-eqb}
use Rattle.pt_base.specs.declared.int_type.IntType.{IntType}
use Rattle.pt_base.proofs.Booleans.{both_hold_first, both_hold_second}
use Rattle.pt_base.proofs.Numbers.{at_most_self}
use Rattle.typed_tree.specs.declared.types.VarTy.{VarTy}
use Rattle.typed_tree.specs.declared.types.VarTy.TheVariants.{Int, Struct, Array, Pointer}
use Rattle.typed_tree.specs.declared.types.StructInfo.{StructInfo}
use Rattle.typed_tree.specs.declared.variable.Var.{Var}
use Rattle.typed_tree.specs.Cells.{leaves_of}
use Rattle.typed_tree.specs.WellFormed.{is_plain_type, is_variable_type, is_small, cells_fit}
use Rattle.block_memory.specs.declared.cell.Cell.TheVariants as cell
use Rattle.block_memory.specs.declared.cell.BlockName.{BlockName}
use Rattle.block_memory.specs.declared.cell.BlockName.TheVariants.{Local, Global, Received}
use Rattle.block_memory.specs.Block.{Block}
use Rattle.block_memory.specs.Blocks.{Blocks}
use Rattle.pt_core.specs.CodeTree.{FunctionTree, ProgramTree}
use Rattle.pt_core.specs.Calls.{function_in, context_in}
use Rattle.pt_core.specs.Steps.{Active}
use Rattle.pt_core.specs.WellFormed.{global_fits, variable_fits}
use Rattle.core_soundness_law.specs.Kept.{Kept}
use Rattle.core_soundness_law.specs.Fits.{IntegerFits, LieAt, BlockFits, LocalFits, variables_at, MemoryFits}
use Rattle.core_soundness_law.specs.Laws.{ValuesFit, PlacesFit}
use Rattle.core_soundness_law.proofs.Integers.{integer_at}
use Rattle.core_soundness_law.proofs.Leaves.{IsCounted, counted}
use Rattle.core_soundness_law.proofs.Objects.{Setting, plain_variable}
use Rattle.core_soundness_law.proofs.Programs.{ProgramFacts, facts_of, FunctionFacts, function_facts, GlobalOf, global_of, variable_of}
use Rattle.core_soundness_law.proofs.Values.{values, places}

-- ---- integers

nowhere : (n : ℕ) (t : IntType) (X : Type 0) → LieAt [] n (t ∷ []) → X
nowhere zero t X h = elim h [ ]
nowhere (suc n) t X h = elim h [ ]

none_lies : (block : Block) (n : ℕ) (t : IntType) (X : Type 0) → block.types ≡ [] → LieAt block.types n (t ∷ []) → X
none_lies block n t X none h = nowhere n t X (subst (λ ts. LieAt ts n (t ∷ [])) none h)

abbrev types_in : Block → List IntType
types_in block = block.types

local_integer : (kept : Kept) (structs : List StructInfo) (blocks : Blocks) (depth : ℕ) (o : Option VarTy) (block : Block) (n : ℕ) (t : IntType) → LocalFits kept structs blocks depth o block → LieAt block.types n (t ∷ []) → IntegerFits kept t (slice_index_or block.cells n (cell.Int (pos 0)))
local_integer kept structs blocks depth None block n t fits h = none_lies block n t _ (ap types_in fits) h
local_integer kept structs blocks depth (Some (Int u)) block n t fits h = integer_at kept block.types block.cells n t fits.cells h
local_integer kept structs blocks depth (Some (Struct m)) block n t fits h = integer_at kept block.types block.cells n t fits.cells h
local_integer kept structs blocks depth (Some (Array elem count)) block n t fits h = integer_at kept block.types block.cells n t fits.cells h
local_integer kept structs blocks depth (Some (Pointer elem fixed)) block n t fits h = none_lies block n t _ fits.none h

pub integers_fit : (kept : Kept) (program : ProgramTree) (active : List Active) (blocks : Blocks) → MemoryFits kept program active blocks → (b : BlockName) (n : ℕ) (t : IntType) → LieAt (blocks b).types n (t ∷ []) → IntegerFits kept t (slice_index_or (blocks b).cells n (cell.Int (pos 0)))
integers_fit kept program active blocks mem (Local depth v) n t h = local_integer kept program.structs blocks depth (slice_get (variables_at program active depth) v) (blocks (Local depth v)) n t (mem.locals depth v) h
integers_fit kept program active blocks mem (Global g) n t h = integer_at kept (blocks (Global g)).types (blocks (Global g)).cells n t (mem.global_cells g) h
integers_fit kept program active blocks mem (Received k) n t h = integer_at kept (blocks (Received k)).types (blocks (Received k)).cells n t (mem.received_cells k) h

-- ---- the innermost function

pub same_depth : {A : Type 0} (n : ℕ) (x y : A) → (if nat_eq n n then x else y) ≡ x
same_depth {A} n x y = subst (λ b. (if b then x else y) ≡ x) (sym (eq-eqb n n refl)) refl

pub setting : (kept : Kept) (monitor : Bool) (program : ProgramTree) (a : Active) (rest : List Active) (blocks : Blocks) → ProgramFacts monitor program → FunctionFacts monitor program a.function → MemoryFits kept program (a ∷ rest) blocks → Setting kept (context_in program a.function) a.depth blocks
setting kept monitor program a rest blocks facts function mem = record {
  sound = facts.structs;
  variables = λ v ty is. (own v ty is, own_counted v ty is);
  globals = λ g ty is. let of : IsTrue (is_plain_type (length program.structs) ty) × IsCounted ty = global_known g ty is in (mem.globals g ty is, of.0, of.1);
  integers = integers_fit kept program (a ∷ rest) blocks mem;
}
  where
    own : (v : ℕ) (ty : VarTy) → slice_get (context_in program a.function).variables v ≡ Some ty → BlockFits kept program.structs blocks a.depth ty (blocks (Local a.depth v))
    own v ty is =
        subst (λ o. LocalFits kept program.structs blocks a.depth o (blocks (Local a.depth v)))
        (ap (λ tys. slice_get tys v) (same_depth a.depth (context_in program a.function).variables (variables_at program rest a.depth)) ∙ is) (mem.locals a.depth v)

    own_counted : (v : ℕ) (ty : VarTy) → slice_get (context_in program a.function).variables v ≡ Some ty → IsCounted ty
    own_counted v ty is =
        let all = subst (λ (g : FunctionTree). IsTrue (list_all (variable_fits program.structs) g.vars)) (sym function.tree_is) function.variables in
        let of : (x : Var) × IsTrue (variable_fits program.structs x) × (x.ty ≡ ty) = variable_of (variable_fits program.structs) (function_in program a.function).vars v ty is all in
        subst IsCounted of.2
        (counted program.structs facts.structs (length program.structs) (at_most_self (length program.structs)) of.0.ty
        (both_hold_first (is_variable_type (length program.structs) of.0.ty) (is_small program.structs of.0.ty) of.1) (both_hold_second (is_variable_type (length program.structs) of.0.ty) (is_small program.structs of.0.ty) of.1))

    global_known : (g : ℕ) (ty : VarTy) → lookup (nat_eq g) (context_in program a.function).globals ≡ Some ty → IsTrue (is_plain_type (length program.structs) ty) × IsCounted ty
    global_known g ty is =
        let of : GlobalOf (global_fits program.structs) ty = global_of (global_fits program.structs) g program.globals ty is facts.globals in
        let type : VarTy = of.of.var.ty in
        let fits = both_hold_first (is_plain_type (length program.structs) type && is_small program.structs type) (cells_fit (leaves_of program.structs type) of.of.cells) of.fits in
        let plain = both_hold_first (is_plain_type (length program.structs) type) (is_small program.structs type) fits in
        subst (λ u. IsTrue (is_plain_type (length program.structs) u) × IsCounted u) of.typed
        (plain, counted program.structs facts.structs (length program.structs) (at_most_self (length program.structs)) type (plain_variable (length program.structs) type plain) (both_hold_second (is_plain_type (length program.structs) type) (is_small program.structs type) fits))

-- ---- the laws

pub values_fit : ValuesFit
values_fit kept monitor program a rest blocks e sound known mem fits =
    let facts : ProgramFacts monitor program = facts_of monitor program sound in
    values kept (context_in program a.function) a.depth blocks (setting kept monitor program a rest blocks facts (function_facts monitor program facts a.function known) mem) e fits

pub places_fit : PlacesFit
places_fit kept monitor program a rest blocks p sound known mem fits =
    let facts : ProgramFacts monitor program = facts_of monitor program sound in
    places kept (context_in program a.function) a.depth blocks (setting kept monitor program a rest blocks facts (function_facts monitor program facts a.function known) mem) p fits
