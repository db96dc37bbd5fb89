-- Further arguments that point to all of a global.
use Rattle.std.specs.Prelude.{ℕ, List, [], map}
use Rattle.typed_tree.specs.declared.types.VarTy.{VarTy}
use Rattle.typed_tree.specs.declared.types.VarTy.TheVariants.{Int, Struct, Array, Pointer}
use Rattle.block_memory.specs.declared.cell.Cell.{Cell}
use Rattle.block_memory.specs.declared.cell.Cell.TheVariants as cell
use Rattle.block_memory.specs.declared.cell.Pointer.TheVariants.{At}
use Rattle.block_memory.specs.declared.cell.BlockName.TheVariants.{Global}
use Rattle.pt_core.specs.CodeTree.{ExprTree, ProgramTree, address, decay, global, place}
use Rattle.pt_core.specs.Types.{global_type}
use Rattle.pt_core.specs.Calls.{context_in}
use Rattle.core_steps_law.specs.ArgumentsLaws.{HaveValues}

-- the address of a global of this type, or the array that it is
abbrev pub pointer_by : VarTy → ℕ → ExprTree
pointer_by (Int t) g = address (place (global g) [])
pointer_by (Struct n) g = address (place (global g) [])
pointer_by (Array elem count) g = decay (place (global g) [])
pointer_by (Pointer elem fixed) g = address (place (global g) [])

-- its value
abbrev pub pointed_by : VarTy → ℕ → Cell
pointed_by (Int t) g = cell.Ptr (At (Global g) 0 1 0)
pointed_by (Struct n) g = cell.Ptr (At (Global g) 0 1 0)
pointed_by (Array elem count) g = cell.Ptr (At (Global g) 0 count 0)
pointed_by (Pointer elem fixed) g = cell.Ptr (At (Global g) 0 1 0)

abbrev pub pointer_to : ProgramTree → ℕ → ExprTree
pointer_to p g = pointer_by (global_type (context_in p 0) g) g

abbrev pub pointed : ProgramTree → ℕ → Cell
pointed p g = pointed_by (global_type (context_in p 0) g) g

-- Pointers to these globals of each function have these values, whatever the memory is.
abbrev pub PointersHaveValues : Type 0
PointersHaveValues = (p : ProgramTree) (globals : ℕ → List ℕ) → HaveValues (λ f. map (pointer_to p) (globals f)) (λ f. map (pointed p) (globals f)) p
