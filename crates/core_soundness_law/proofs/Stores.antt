-- What statements store fits where it goes.
use Rattle.std.proofs.Common.{◌≡◌, ◌∙◌, ℕ, refl, ap, sym, subst, false, Option, Some, None, IfOk, List, ◌∷◌, length}
use Rattle.std.specs.Prelude.{IsTrue, ◌&&◌, ◌||◌, not, slice_get, take, drop, nat_lt}
use Rattle.pt_base.specs.declared.int_type.IntType.{IntType}
use Rattle.pt_base.proofs.Booleans.{both_hold_first, both_hold_second, false_not_true}
use Rattle.typed_tree.specs.declared.types.VarTy.{VarTy}
use Rattle.typed_tree.specs.declared.types.VarTy.TheVariants.{Int, Struct, Array, Pointer}
use Rattle.typed_tree.specs.declared.types.StructInfo.{StructInfo}
use Rattle.typed_tree.specs.Cells.{leaves_of}
use Rattle.typed_tree.specs.Sizes.{cells_by, sizes_of}
use Rattle.typed_tree.specs.TypeTests.{same_elem, same_type, is_scalar}
use Rattle.typed_tree.proofs.LeavesLemmas.{leaves_of_int}
use Rattle.source_meaning.proofs.SizeLemmas.{sizes}
use Rattle.block_memory.specs.declared.cell.Cell.{Cell}
use Rattle.block_memory.specs.declared.cell.BlockName.TheVariants.{Local}
use Rattle.block_memory.specs.Block.{fresh}
use Rattle.block_memory.specs.Blocks.{Blocks}
use Rattle.pt_core.specs.CodeTree.{PlaceTree, ExprTree, ProgramTree}
use Rattle.pt_core.specs.Types.{Context, type_at, type_of, place_type, shape_of}
use Rattle.pt_core.specs.Values.{Location, value_of, location_of, cells_at, written, all_written}
use Rattle.pt_core.specs.Statements.{cleared, assigned, copied, kept as with_result}
use Rattle.pt_core.specs.Calls.{context_in}
use Rattle.pt_core.specs.Steps.{Active}
use Rattle.pt_core.specs.WellFormedExpression.{stands_for, expr_fits, place_fits}
use Rattle.pt_core.specs.WellFormedStatement.{value_fits, is_compound, result_fits}
use Rattle.core_soundness_law.specs.Kept.{Kept}
use Rattle.core_soundness_law.specs.Fits.{IntegersFit, LieAt, ValueFits, BlockFits, LocalFits, variables_at, MemoryFits}
use Rattle.core_soundness_law.specs.Laws.{ObjectLies, LocationFits}
use Rattle.core_soundness_law.specs.Outside.{GivenFits}
use Rattle.typed_tree.proofs.SameTypes.{equal_ints, equal_elems, equal_types}
use Rattle.core_soundness_law.proofs.Objects.{Setting, local_fits}
use Rattle.core_soundness_law.proofs.Values.{bound, known_variable, values, places}
use Rattle.core_soundness_law.proofs.Memory.{replaced, integer_written, pointer_written, integers_all_written, object_cells_fit, fresh_fits, types_of_block}
use Rattle.core_soundness_law.proofs.Settings.{same_depth}

-- a value fits each type that it may stand for
pub stands : (kept : Kept) (structs : List StructInfo) (blocks : Blocks) (depth : ℕ) (a b : VarTy) (v : Cell) → IsTrue (stands_for a b) → ValueFits kept structs blocks depth a v → ValueFits kept structs blocks depth b v
stands kept structs blocks depth (Int a) (Int b) v h f = subst (λ t. ValueFits kept structs blocks depth (Int t) v) (equal_ints a b h) f
stands kept structs blocks depth (Int a) (Struct n) v h f = false_not_true h
stands kept structs blocks depth (Int a) (Array elem count) v h f = false_not_true h
stands kept structs blocks depth (Int a) (Pointer elem fixed) v h f = false_not_true h
stands kept structs blocks depth (Struct n) b v h f = elim f [ ]
stands kept structs blocks depth (Array elem count) b v h f = elim f [ ]
stands kept structs blocks depth (Pointer a f1) (Int b) v h f = false_not_true h
stands kept structs blocks depth (Pointer a f1) (Struct n) v h f = false_not_true h
stands kept structs blocks depth (Pointer a f1) (Array elem count) v h f = false_not_true h
stands kept structs blocks depth (Pointer a f1) (Pointer b f2) v h f = subst (λ e. ValueFits kept structs blocks depth (Pointer e f2) v) (equal_elems a b (both_hold_first (same_elem a b) (not f1 || f2) h)) f

-- a value that fits goes to an object of its type
pub stored : (kept : Kept) (program : ProgramTree) (a : Active) (rest : List Active) (blocks : Blocks) → MemoryFits kept program (a ∷ rest) blocks → (ty : VarTy) (at : Location) (v : Cell) → IsTrue (is_scalar (Some ty)) →
    LocationFits (context_in program a.function) blocks a.depth ty at → ValueFits kept program.structs blocks a.depth ty v → MemoryFits kept program (a ∷ rest) (written blocks at.block at.cell v)
stored kept program a rest blocks mem (Int t) at v h fits f = integer_written kept program (a ∷ rest) blocks at.block at.cell t v mem (subst (λ ts. LieAt (blocks at.block).types at.cell ts) (leaves_of_int program.structs t) fits.lies.1) f
stored kept program a rest blocks mem (Struct n) at v h fits f = false_not_true h
stored kept program a rest blocks mem (Array elem count) at v h fits f = false_not_true h
stored kept program a rest blocks mem (Pointer elem fixed) at v h fits f =
    subst (λ b. MemoryFits kept program (a ∷ rest) (written blocks b at.cell v)) (sym fits.lies.2)
    (subst (λ n. MemoryFits kept program (a ∷ rest) (written blocks (Local a.depth fits.lies.0) n v)) (sym fits.lies.3)
    (pointer_written kept program (a ∷ rest) blocks a.depth fits.lies.0 elem fixed v mem
    (ap (λ tys. slice_get tys fits.lies.0) (same_depth a.depth (context_in program a.function).variables (variables_at program rest a.depth)) ∙ fits.lies.1) f))

pub assigned_fits : (kept : Kept) (program : ProgramTree) (a : Active) (rest : List Active) (blocks : Blocks) → Setting kept (context_in program a.function) a.depth blocks → MemoryFits kept program (a ∷ rest) blocks → (p : PlaceTree) (e : ExprTree) →
    IsTrue (place_fits (context_in program a.function) p && (is_scalar (Some (place_type (context_in program a.function) p)) && value_fits (context_in program a.function) (place_type (context_in program a.function) p) e)) →
    IfOk (assigned (context_in program a.function) a.depth p e blocks) (MemoryFits kept program (a ∷ rest))
assigned_fits kept program a rest blocks s mem p e h =
    let c : Context = context_in program a.function in
    let ty : VarTy = place_type c p in
    let more : IsTrue (is_scalar (Some ty) && value_fits c ty e) = both_hold_second (place_fits c p) (is_scalar (Some ty) && value_fits c ty e) h in
    let value : IsTrue (expr_fits c e && stands_for (type_of c e) ty) = both_hold_second (is_scalar (Some ty)) (value_fits c ty e) more in
    bound (LocationFits c blocks a.depth ty) (MemoryFits kept program (a ∷ rest)) (location_of c a.depth p blocks) _ (places kept c a.depth blocks s p (both_hold_first (place_fits c p) (is_scalar (Some ty) && value_fits c ty e) h))
    (λ at lies. bound (ValueFits kept c.structs blocks a.depth (type_of c e)) (MemoryFits kept program (a ∷ rest)) (value_of c a.depth e blocks) _ (values kept c a.depth blocks s e (both_hold_first (expr_fits c e) (stands_for (type_of c e) ty) value))
    (λ v fits. stored kept program a rest blocks mem ty at v (both_hold_first (is_scalar (Some ty)) (value_fits c ty e) more) lies
    (stands kept c.structs blocks a.depth (type_of c e) ty v (both_hold_second (expr_fits c e) (stands_for (type_of c e) ty) value) fits)))

-- ---- copies

compound_lies : (c : Context) (blocks : Blocks) (depth : ℕ) (ty : VarTy) (at : Location) → IsTrue (is_compound ty) → ObjectLies c blocks depth ty at → LieAt (blocks at.block).types at.cell (leaves_of c.structs ty)
compound_lies c blocks depth (Int t) at h lies = false_not_true h
compound_lies c blocks depth (Struct n) at h lies = lies.1
compound_lies c blocks depth (Array elem count) at h lies = lies.1
compound_lies c blocks depth (Pointer elem fixed) at h lies = false_not_true h

copy_fits : (kept : Kept) (program : ProgramTree) (a : Active) (rest : List Active) (blocks : Blocks) → MemoryFits kept program (a ∷ rest) blocks → (ty : VarTy) (at from : Location) → IsTrue (is_compound ty) →
    LocationFits (context_in program a.function) blocks a.depth ty at → LocationFits (context_in program a.function) blocks a.depth ty from →
    MemoryFits kept program (a ∷ rest) (all_written blocks at.block at.cell (cells_at blocks from (cells_by (sizes_of program.structs) at.ty)))
copy_fits kept program a rest blocks mem ty at from h to of =
    let c : Context = context_in program a.function in
    let source : LieAt (blocks from.block).types from.cell (leaves_of program.structs ty) = compound_lies c blocks a.depth ty from h of.lies in
    let size : length (leaves_of program.structs ty) ≡ cells_by (sizes_of program.structs) at.ty = sym (sizes program.structs ty) ∙ ap (λ u. cells_by (sizes_of program.structs) u) (sym to.typed) in
    integers_all_written kept program (a ∷ rest) blocks at.block at.cell (leaves_of program.structs ty) (cells_at blocks from (cells_by (sizes_of program.structs) at.ty)) mem (compound_lies c blocks a.depth ty at h to.lies)
    (subst (λ n. IntegersFit kept (leaves_of program.structs ty) (take n (drop from.cell (blocks from.block).cells))) size
    (object_cells_fit kept program (a ∷ rest) blocks from.block from.cell (leaves_of program.structs ty) mem source))

pub copied_fits : (kept : Kept) (program : ProgramTree) (a : Active) (rest : List Active) (blocks : Blocks) → Setting kept (context_in program a.function) a.depth blocks → MemoryFits kept program (a ∷ rest) blocks → (p q : PlaceTree) →
    IsTrue ((place_fits (context_in program a.function) p && place_fits (context_in program a.function) q)
    && (is_compound (place_type (context_in program a.function) p) && same_type (place_type (context_in program a.function) p) (place_type (context_in program a.function) q))) →
    IfOk (copied (context_in program a.function) a.depth p q blocks) (MemoryFits kept program (a ∷ rest))
copied_fits kept program a rest blocks s mem p q h =
    let c : Context = context_in program a.function in
    let ty : VarTy = place_type c p in
    let both : IsTrue (place_fits c p && place_fits c q) = both_hold_first (place_fits c p && place_fits c q) (is_compound ty && same_type ty (place_type c q)) h in
    let types : IsTrue (is_compound ty && same_type ty (place_type c q)) = both_hold_second (place_fits c p && place_fits c q) (is_compound ty && same_type ty (place_type c q)) h in
    let same : ty ≡ place_type c q = equal_types ty (place_type c q) (both_hold_second (is_compound ty) (same_type ty (place_type c q)) types) in
    bound (LocationFits c blocks a.depth ty) (MemoryFits kept program (a ∷ rest)) (location_of c a.depth p blocks) _ (places kept c a.depth blocks s p (both_hold_first (place_fits c p) (place_fits c q) both))
    (λ at to. bound (LocationFits c blocks a.depth (place_type c q)) (MemoryFits kept program (a ∷ rest)) (location_of c a.depth q blocks) _ (places kept c a.depth blocks s q (both_hold_second (place_fits c p) (place_fits c q) both))
    (λ from of. copy_fits kept program a rest blocks mem ty at from (both_hold_first (is_compound ty) (same_type ty (place_type c q)) types) to (subst (λ u. LocationFits c blocks a.depth u from) (sym same) of)))

-- ---- declarations and results

pub cleared_fits : (kept : Kept) (program : ProgramTree) (a : Active) (rest : List Active) (blocks : Blocks) → Setting kept (context_in program a.function) a.depth blocks → MemoryFits kept program (a ∷ rest) blocks → (v : ℕ) →
    IsTrue (nat_lt v (length (context_in program a.function).variables)) → MemoryFits kept program (a ∷ rest) (cleared (context_in program a.function) a.depth v blocks)
cleared_fits kept program a rest blocks s mem v h =
    let c : Context = context_in program a.function in
    let ty : VarTy = type_at c.variables v in
    let is : slice_get c.variables v ≡ Some ty = known_variable c v h in
    let new : BlockFits kept program.structs blocks a.depth ty (fresh (shape_of program.structs ty)) = fresh_fits kept program.structs blocks a.depth ty in
    let at : slice_get (variables_at program (a ∷ rest) a.depth) v ≡ Some ty = ap (λ tys. slice_get tys v) (same_depth a.depth c.variables (variables_at program rest a.depth)) ∙ is in
    replaced kept program (a ∷ rest) blocks (Local a.depth v) (fresh (shape_of program.structs ty)) mem (types_of_block kept program.structs blocks a.depth ty (fresh (shape_of program.structs ty)) (blocks (Local a.depth v)) new (s.variables v ty is).0)
    (subst (λ o. LocalFits kept program.structs blocks a.depth o (fresh (shape_of program.structs ty))) (sym at) new)

pub kept_fits : (kept : Kept) (program : ProgramTree) (a : Active) (rest : List Active) (blocks : Blocks) → Setting kept (context_in program a.function) a.depth blocks → MemoryFits kept program (a ∷ rest) blocks → (result : Option IntType) (to : Option ℕ) (v : Option Cell) →
    IsTrue (result_fits (context_in program a.function) result to) → GivenFits kept result v → MemoryFits kept program (a ∷ rest) (with_result a.depth to v blocks)
kept_fits kept program a rest blocks s mem result None v h f = mem
kept_fits kept program a rest blocks s mem None (Some x) v h f = false_not_true (both_hold_second (nat_lt x (length (context_in program a.function).variables)) false h)
kept_fits kept program a rest blocks s mem (Some t) (Some x) None h f = elim f [ ]
kept_fits kept program a rest blocks s mem (Some t) (Some x) (Some v) h f =
    let c : Context = context_in program a.function in
    let same : Int t ≡ type_at c.variables x = equal_types (Int t) (type_at c.variables x) (both_hold_second (nat_lt x (length c.variables)) (same_type (Int t) (type_at c.variables x)) h) in
    let is : slice_get c.variables x ≡ Some (Int t) = known_variable c x (both_hold_first (nat_lt x (length c.variables)) (same_type (Int t) (type_at c.variables x)) h) ∙ ap Some (sym same) in
    stored kept program a rest blocks mem (Int t) (record { block = Local a.depth x; cell = 0; ty = Int t }) v refl (local_fits kept c a.depth blocks s x (Int t) is) f
