-- When a machine fits its program: what is live and of which types, what cells hold, and what the active
-- functions have still to do. A handle fits where it stands for a number of the type; which do is a parameter.
use Rattle.std.specs.Prelude.{◌≡◌, ◌≤◌, ◌<◌, ◌^◌, ℕ, zero, suc, Bool, true, false, ◌&&◌, List, [], ◌∷◌, Option, Some, None, IsTrue, if◌then◌else◌, nat_eq, slice_get, is_some}
use Rattle.std.specs.Map.{lookup}
use Rattle.pt_base.specs.declared.int_type.IntType.{IntType}
use Rattle.pt_int.specs.Conversion.{is_in_range}
use Rattle.pt_tree.specs.declared.signature.Elem.{Elem}
use Rattle.typed_tree.specs.declared.types.VarTy.{VarTy}
use Rattle.typed_tree.specs.declared.types.VarTy.TheVariants.{Int, Struct, Array, Pointer}
use Rattle.typed_tree.specs.declared.types.StructInfo.{StructInfo}
use Rattle.typed_tree.specs.Cells.{leaves_of, repeated}
use Rattle.typed_tree.specs.TypeTests.{type_of_elem}
use Rattle.runs.specs.Run.{deepest}
use Rattle.runs.specs.Pointers.{Target}
use Rattle.block_memory.specs.declared.cell.Cell.{Cell}
use Rattle.block_memory.specs.declared.cell.Cell.TheVariants as cell
use Rattle.block_memory.specs.declared.cell.Pointer.TheVariants as pointer
use Rattle.block_memory.specs.declared.cell.BlockName.{BlockName}
use Rattle.block_memory.specs.declared.cell.BlockName.TheVariants.{Local, Global, Received}
use Rattle.block_memory.specs.Block.{Block, no_block}
use Rattle.block_memory.specs.Blocks.{Blocks}
use Rattle.pt_core.specs.CodeTree.{ProgramTree}
use Rattle.pt_core.specs.Calls.{signature_in, function_in, context_in}
use Rattle.pt_core.specs.Steps.{Work, run, head, Active, Awaited, Machine}
use Rattle.pt_core.specs.WellFormed.{function_at, scope_of}
use Rattle.pt_core.specs.WellFormedStatement.{Scope, stmts_fit, result_fits}
use Rattle.core_soundness_law.specs.Kept.{Kept}

-- ---- integers

-- a number in the range of the type, or a handle that stands for one
abbrev pub IntegerFits : Kept → IntType → Cell → Type 0
IntegerFits kept t (cell.Int v) = IsTrue (is_in_range t v)
IntegerFits kept t (cell.Ptr p) = ⊥
IntegerFits kept t (cell.Sealed h) = IsTrue (kept t h)

-- one cell for each type
abbrev pub IntegersFit : Kept → List IntType → List Cell → Type 0
IntegersFit kept [] [] = Unit {0}
IntegersFit kept [] (c ∷ cs) = ⊥
IntegersFit kept (t ∷ ts) [] = ⊥
IntegersFit kept (t ∷ ts) (c ∷ cs) = IntegerFits kept t c × IntegersFit kept ts cs

-- ---- where types lie

-- the first list begins with the second
abbrev pub BeginsWith : List IntType → List IntType → Type 0
BeginsWith types [] = Unit {0}
BeginsWith [] (t ∷ ts) = ⊥
BeginsWith (x ∷ types) (t ∷ ts) = (x ≡ t) × BeginsWith types ts

-- the second list lies in the first, from this cell on
abbrev pub LieAt : List IntType → ℕ → List IntType → Type 0
LieAt types zero ts = BeginsWith types ts
LieAt [] (suc n) ts = ⊥
LieAt (x ∷ types) (suc n) ts = LieAt types n ts

-- ---- pointers

-- the depth of the function whose variable it is; 0 of what is no local
abbrev pub depth_of : BlockName → ℕ
depth_of (Local depth v) = depth
depth_of (Global g) = 0
depth_of (Received n) = 0

-- A pointer to elements of this kind, which a function of this depth may hold: its block is of no deeper
-- function and has the integers of all the elements from the base on; there is an element, and the index is
-- at most their number, which 32 bits hold.
pub record Points (structs : List StructInfo) (blocks : Blocks) (depth : ℕ) (elem : Elem) (at : Target BlockName) : Type 0 where
  pub near : depth_of at.block ≤ depth
  pub some : 1 ≤ at.count
  pub few : at.count < 2 ^ 32
  pub within : at.index ≤ at.count
  pub types : LieAt (blocks at.block).types at.base (repeated at.count (leaves_of structs (type_of_elem elem)))

-- null or such a pointer
abbrev pub PointerFits : List StructInfo → Blocks → ℕ → Elem → Cell → Type 0
PointerFits structs blocks depth elem (cell.Int v) = ⊥
PointerFits structs blocks depth elem (cell.Ptr pointer.Null) = Unit {0}
PointerFits structs blocks depth elem (cell.Ptr (pointer.At block base count index)) =
    Points structs blocks depth elem (record { block = block; base = base; count = count; index = index })
PointerFits structs blocks depth elem (cell.Sealed h) = ⊥

-- a cell as a value of this type, which a function of this depth may hold
abbrev pub ValueFits : Kept → List StructInfo → Blocks → ℕ → VarTy → Cell → Type 0
ValueFits kept structs blocks depth (Int t) v = IntegerFits kept t v
ValueFits kept structs blocks depth (Struct n) v = ⊥
ValueFits kept structs blocks depth (Array elem count) v = ⊥
ValueFits kept structs blocks depth (Pointer elem fixed) v = PointerFits structs blocks depth elem v

-- ---- blocks

-- the block of an object with these integers
pub record HasIntegers (kept : Kept) (types : List IntType) (block : Block) : Type 0 where
  pub types_are : block.types ≡ types
  pub cells : IntegersFit kept block.types block.cells

-- the block of a pointer variable: one cell, and no integers, so no pointer points to it
pub record HasPointer (structs : List StructInfo) (blocks : Blocks) (depth : ℕ) (elem : Elem) (block : Block) : Type 0 where
  pub none : block.types ≡ []
  pub held : Cell
  pub cells : block.cells ≡ held ∷ []
  pub fits : PointerFits structs blocks depth elem held

-- the block of a variable of this type of a function of this depth
abbrev pub BlockFits : Kept → List StructInfo → Blocks → ℕ → VarTy → Block → Type 0
BlockFits kept structs blocks depth (Int t) block = HasIntegers kept (leaves_of structs (Int t)) block
BlockFits kept structs blocks depth (Struct n) block = HasIntegers kept (leaves_of structs (Struct n)) block
BlockFits kept structs blocks depth (Array elem count) block = HasIntegers kept (leaves_of structs (Array elem count)) block
BlockFits kept structs blocks depth (Pointer elem fixed) block = HasPointer structs blocks depth elem block

-- a variable that isn't there has no block
abbrev pub LocalFits : Kept → List StructInfo → Blocks → ℕ → Option VarTy → Block → Type 0
LocalFits kept structs blocks depth None block = block ≡ no_block
LocalFits kept structs blocks depth (Some ty) block = BlockFits kept structs blocks depth ty block

-- the types of the variables of the active function of this depth; none where no such function is active
abbrev pub variables_at : ProgramTree → List Active → ℕ → List VarTy
variables_at program [] depth = []
variables_at program (a ∷ rest) depth = if nat_eq depth a.depth then (context_in program a.function).variables else variables_at program rest depth

-- Live locals are the variables of active functions; each global has the integers of its type, no other is
-- live, and what is global or received holds integers alone.
pub record MemoryFits (kept : Kept) (program : ProgramTree) (active : List Active) (blocks : Blocks) : Type 0 where
  pub locals : (depth v : ℕ) → LocalFits kept program.structs blocks depth (slice_get (variables_at program active depth) v) (blocks (Local depth v))
  pub globals : (g : ℕ) (ty : VarTy) → lookup (nat_eq g) (context_in program 0).globals ≡ Some ty → (blocks (Global g)).types ≡ leaves_of program.structs ty
  pub global_cells : (g : ℕ) → IntegersFit kept (blocks (Global g)).types (blocks (Global g)).cells
  pub received_cells : (n : ℕ) → IntegersFit kept (blocks (Received n)).types (blocks (Received n)).cells
  pub beyond : (g : ℕ) → lookup (nat_eq g) (context_in program 0).globals ≡ None → blocks (Global g) ≡ no_block

-- ---- what is active

-- what the statements of this function are tested by
abbrev pub scope_in : Bool → ProgramTree → ℕ → Scope
scope_in monitor program f = scope_of monitor program (function_in program f) (signature_in program f)

-- a loop is among the work
abbrev pub is_looped : List Work → Bool
is_looped [] = false
is_looped (run stmts ∷ work) = is_looped work
is_looped (head body ∷ work) = true

-- what a function has still to do consists of statements that fit; `break` and `continue` stand in loops
abbrev pub work_fits : Scope → List Work → Bool
work_fits scope [] = true
work_fits scope (run stmts ∷ work) = stmts_fit scope (is_looped work) stmts && work_fits scope work
work_fits scope (head body ∷ work) = stmts_fit scope true body && work_fits scope work

-- an active function is one of the program, at a depth from 1 to the deepest
pub record ActiveFits (monitor : Bool) (program : ProgramTree) (a : Active) : Type 0 where
  pub known : IsTrue (is_some (function_at program a.function))
  pub deep : 1 ≤ a.depth
  pub shallow : a.depth ≤ deepest
  pub work : IsTrue (work_fits (scope_in monitor program a.function) a.work)

-- the result of a call of this function may be left, or goes to a variable of its type of this caller
abbrev pub TakesResult : ProgramTree → Active → ℕ → Option ℕ → Type 0
TakesResult program caller f result = IsTrue (result_fits (context_in program caller.function) (signature_in program f).result result)

-- a function stands one deeper than its caller, which takes its result
abbrev pub StandsOn : ProgramTree → Active → List Active → Type 0
StandsOn program a [] = Unit {0}
StandsOn program a (caller ∷ rest) = (a.depth ≡ suc caller.depth) × TakesResult program caller a.function a.result

abbrev pub AllFit : Bool → ProgramTree → List Active → Type 0
AllFit monitor program [] = Unit {0}
AllFit monitor program (a ∷ rest) = ActiveFits monitor program a × StandsOn program a rest × AllFit monitor program rest

-- the innermost function takes the result of the call that was asked for
abbrev pub AwaitedFits : ProgramTree → List Active → Option Awaited → Type 0
AwaitedFits program active None = Unit {0}
AwaitedFits program [] (Some awaited) = ⊥
AwaitedFits program (a ∷ rest) (Some awaited) = TakesResult program a awaited.callee awaited.result

-- ---- machines

pub record Fits (kept : Kept) (monitor : Bool) (program : ProgramTree) (m : Machine) : Type 0 where
  pub memory : MemoryFits kept program m.active m.blocks
  pub active : AllFit monitor program m.active
  pub awaited : AwaitedFits program m.active m.awaits
