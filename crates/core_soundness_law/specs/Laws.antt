-- What fits goes on fitting.
use Rattle.std.specs.Prelude.{◌≡◌, ◌≤◌, ℕ, Bool, List, ◌∷◌, Some, IsTrue, IfOk, slice_get, is_some}
use Rattle.typed_tree.specs.declared.types.VarTy.{VarTy}
use Rattle.typed_tree.specs.declared.types.VarTy.TheVariants.{Int, Struct, Array, Pointer}
use Rattle.typed_tree.specs.Cells.{leaves_of}
use Rattle.block_memory.specs.declared.cell.BlockName.TheVariants.{Local}
use Rattle.block_memory.specs.Blocks.{Blocks}
use Rattle.pt_core.specs.CodeTree.{PlaceTree, ExprTree, ProgramTree}
use Rattle.pt_core.specs.Types.{Context, type_of, place_type}
use Rattle.pt_core.specs.Values.{Location, value_of, location_of}
use Rattle.pt_core.specs.Calls.{context_in}
use Rattle.pt_core.specs.Steps.{Active}
use Rattle.pt_core.specs.WellFormed.{function_at, is_sound}
use Rattle.pt_core.specs.WellFormedExpression.{expr_fits, place_fits}
use Rattle.core_soundness_law.specs.Kept.{Kept}
use Rattle.core_soundness_law.specs.Fits.{LieAt, depth_of, ValueFits, MemoryFits}

-- ---- values and places

-- an object of this type: a pointer variable of the function at this depth, or a part of a live block, of no
-- deeper function, that has the integers of the type from there on
abbrev pub ObjectLies : Context → Blocks → ℕ → VarTy → Location → Type 0
ObjectLies c blocks depth (Int t) at = (depth_of at.block ≤ depth) × LieAt (blocks at.block).types at.cell (leaves_of c.structs (Int t))
ObjectLies c blocks depth (Struct n) at = (depth_of at.block ≤ depth) × LieAt (blocks at.block).types at.cell (leaves_of c.structs (Struct n))
ObjectLies c blocks depth (Array elem count) at = (depth_of at.block ≤ depth) × LieAt (blocks at.block).types at.cell (leaves_of c.structs (Array elem count))
ObjectLies c blocks depth (Pointer elem fixed) at = (v : ℕ) × (slice_get c.variables v ≡ Some (Pointer elem fixed)) × (at.block ≡ Local depth v) × (at.cell ≡ 0)

pub record LocationFits (c : Context) (blocks : Blocks) (depth : ℕ) (ty : VarTy) (at : Location) : Type 0 where
  pub typed : at.ty ≡ ty
  pub lies : ObjectLies c blocks depth ty at

-- an expression that fits gives a cell that fits its type, or traps
abbrev pub ValuesFit : Type 0
ValuesFit = (kept : Kept) (monitor : Bool) (program : ProgramTree) (a : Active) (rest : List Active) (blocks : Blocks) (e : ExprTree) →
    IsTrue (is_sound monitor program) → IsTrue (is_some (function_at program a.function)) → MemoryFits kept program (a ∷ rest) blocks →
    IsTrue (expr_fits (context_in program a.function) e) →
    IfOk (value_of (context_in program a.function) a.depth e blocks) (ValueFits kept program.structs blocks a.depth (type_of (context_in program a.function) e))

-- a place that fits designates an object of its type, or traps
abbrev pub PlacesFit : Type 0
PlacesFit = (kept : Kept) (monitor : Bool) (program : ProgramTree) (a : Active) (rest : List Active) (blocks : Blocks) (p : PlaceTree) →
    IsTrue (is_sound monitor program) → IsTrue (is_some (function_at program a.function)) → MemoryFits kept program (a ∷ rest) blocks →
    IsTrue (place_fits (context_in program a.function) p) →
    IfOk (location_of (context_in program a.function) a.depth p blocks) (LocationFits (context_in program a.function) blocks a.depth (place_type (context_in program a.function) p))
