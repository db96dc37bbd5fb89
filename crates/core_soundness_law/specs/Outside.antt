-- What comes to a machine from outside leaves it fitting.
use Rattle.std.specs.Prelude.{◌≡◌, ◌≤◌, ℕ, ℤ, Bool, List, [], ◌∷◌, Option, Some, None, IsTrue, length, map, take, is_some}
use Rattle.pt_base.specs.declared.int_type.IntType.{IntType}
use Rattle.pt_tree.specs.declared.signature.Param.{Param}
use Rattle.runs.specs.Run.{deepest}
use Rattle.typed_tree.specs.declared.types.StructInfo.{StructInfo}
use Rattle.typed_tree.specs.WellFormedExpression.{param_type}
use Rattle.block_memory.specs.declared.cell.Cell.{Cell}
use Rattle.block_memory.specs.declared.cell.BlockName.{BlockName}
use Rattle.block_memory.specs.declared.cell.BlockName.TheVariants.{Received}
use Rattle.block_memory.specs.Block.{Block}
use Rattle.block_memory.specs.Blocks.{Blocks, put}
use Rattle.pt_core.specs.CodeTree.{ProgramTree}
use Rattle.pt_core.specs.Values.{written}
use Rattle.pt_core.specs.Calls.{signature_in, function_in}
use Rattle.pt_core.specs.Steps.{Awaited, Machine, at_rest, started, with_blocks, with_budget, resumed}
use Rattle.pt_core.specs.WellFormed.{function_at, is_sound}
use Rattle.core_soundness_law.specs.Kept.{Kept, IsWithin, by_store, by_types}
use Rattle.core_soundness_law.specs.Fits.{IntegerFits, IntegersFit, LieAt, ValueFits, Fits}

-- ---- arguments and results

-- one value for each parameter, which a function of this depth may hold
abbrev pub ArgumentsFit : Kept → List StructInfo → Blocks → ℕ → List Param → List Cell → Type 0
ArgumentsFit kept structs blocks depth [] [] = Unit {0}
ArgumentsFit kept structs blocks depth [] (v ∷ vs) = ⊥
ArgumentsFit kept structs blocks depth (p ∷ ps) [] = ⊥
ArgumentsFit kept structs blocks depth (p ∷ ps) (v ∷ vs) = ValueFits kept structs blocks depth (param_type p.kind) v × ArgumentsFit kept structs blocks depth ps vs

-- what a function gives is of its result
abbrev pub GivenFits : Kept → Option IntType → Option Cell → Type 0
GivenFits kept None None = Unit {0}
GivenFits kept None (Some v) = ⊥
GivenFits kept (Some t) None = ⊥
GivenFits kept (Some t) (Some v) = IntegerFits kept t v

-- the parameters that the function's code has: in the monitor's program the first ones of its signature
abbrev pub own_params : ProgramTree → ℕ → List Param
own_params program f = take (function_in program f).params (signature_in program f).params

-- ---- laws

-- A machine at rest fits, whichever handles stand for numbers: it has none.
abbrev pub RestFits : Type 0
RestFits = (kept : Kept) (monitor : Bool) (program : ProgramTree) (budget : ℕ) → IsTrue (is_sound monitor program) → Fits kept monitor program (at_rest program budget)

-- A function of the program is entered at a depth from 1 to the deepest, where none is active, with arguments
-- of its own parameters; its pointers point to no local.
abbrev pub StartedFits : Type 0
StartedFits = (kept : Kept) (monitor : Bool) (program : ProgramTree) (m : Machine) (privileged : Bool) (f depth : ℕ) (args : List Cell) → IsTrue (is_sound monitor program) → Fits kept monitor program m → m.active ≡ [] → m.awaits ≡ None →
    IsTrue (is_some (function_at program f)) → 1 ≤ depth → depth ≤ deepest → ArgumentsFit kept program.structs m.blocks 0 (own_params program f) args → Fits kept monitor program (started program privileged f depth args m)

-- a machine goes on with what the awaited call gave
abbrev pub ResumedFits : Type 0
ResumedFits = (kept : Kept) (monitor : Bool) (program : ProgramTree) (m : Machine) (awaited : Awaited) (v : Option Cell) → IsTrue (is_sound monitor program) → Fits kept monitor program m → m.awaits ≡ Some awaited →
    GivenFits kept (signature_in program awaited.callee).result v → Fits kept monitor program (resumed v m)

-- how many turns may be taken makes no difference
abbrev pub BudgetedFits : Type 0
BudgetedFits = (kept : Kept) (monitor : Bool) (program : ProgramTree) (m : Machine) (budget : ℕ) → Fits kept monitor program m → Fits kept monitor program (with_budget budget m)

-- Where no function is active, so that no pointer points into it, a received block may be put in the place of any other:
-- one with as many cells as types, each of which fits.
abbrev pub ReceivedFits : Type 0
ReceivedFits = (kept : Kept) (monitor : Bool) (program : ProgramTree) (m : Machine) (n : ℕ) (block : Block) → Fits kept monitor program m → m.active ≡ [] → IntegersFit kept block.types block.cells →
    Fits kept monitor program (with_blocks (put m.blocks (Received n) block) m)

-- a cell may be written where an integer of its type lies
abbrev pub WrittenFits : Type 0
WrittenFits = (kept : Kept) (monitor : Bool) (program : ProgramTree) (m : Machine) (name : BlockName) (n : ℕ) (t : IntType) (c : Cell) → Fits kept monitor program m → LieAt (m.blocks name).types n (t ∷ []) → IntegerFits kept t c →
    Fits kept monitor program (with_blocks (written m.blocks name n c) m)

-- So may all cells of a block of integers. A pointer variable's block has a cell and no type, so no cells for it fit.
abbrev pub FilledFits : Type 0
FilledFits = (kept : Kept) (monitor : Bool) (program : ProgramTree) (m : Machine) (name : BlockName) (cells : List Cell) → Fits kept monitor program m → length cells ≡ length (m.blocks name).cells → IntegersFit kept (m.blocks name).types cells →
    Fits kept monitor program (with_blocks (put m.blocks name (record { types = (m.blocks name).types; cells = cells })) m)

-- where more handles stand for numbers, what fits goes on fitting
abbrev pub MoreIsKept : Type 0
MoreIsKept = (kept more : Kept) (monitor : Bool) (program : ProgramTree) (m : Machine) → IsWithin kept more → Fits kept monitor program m → Fits more monitor program m

-- which handles of a store stand for numbers of which types is told by the types of its entries
abbrev pub TypesTell : Type 0
TypesTell = (store : List (IntType × ℤ)) (t : IntType) (handle : ℕ) → by_store store t handle ≡ by_types (map (λ entry. entry.0) store) t handle
