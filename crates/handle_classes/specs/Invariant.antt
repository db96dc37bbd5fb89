-- What one step keeps: each handle lies where the classes say that one may, each pointer points to what
-- its class says, and what is left to do is fine.
use Rattle.std.specs.Prelude.{◌≡◌, ◌<◌, ◌+◌, ℕ, suc, pos, true, false, List, [], ◌∷◌, Option, Some, None, if◌then◌else◌, nat_eq, slice_index_or}
use Rattle.block_memory.specs.declared.cell.Cell.{Cell}
use Rattle.block_memory.specs.declared.cell.Cell.TheVariants.{Int, Ptr, Sealed}
use Rattle.block_memory.specs.declared.cell.Pointer.TheVariants.{Null, At}
use Rattle.block_memory.specs.declared.cell.BlockName.{BlockName}
use Rattle.block_memory.specs.declared.cell.BlockName.TheVariants.{Local, Global, Received}
use Rattle.block_memory.specs.Blocks.{Blocks}
use Rattle.runs.specs.Pointers.{cell_at}
use Rattle.pt_core.specs.CodeTree.{ProgramTree}
use Rattle.pt_core.specs.Steps.{Work, run, head, Active, Awaited, Machine}
use Rattle.handle_classes.specs.Classes.{Class, World, scope_in}
use Rattle.handle_classes.specs.Judgment.{AreFineStatements, TakesResult}

-- ---- memory

-- of a local that isn't live: nothing may point to it, and no handle lies in it
abbrev pub no_class : Class
no_class = record { pointer = true; size = 0; may = λ n. false; must = λ n. true }

-- of a variable of the function that was entered at this depth
abbrev pub local_class : World → List Active → ℕ → ℕ → Class
local_class w [] depth v = no_class
local_class w (a ∷ rest) depth v = if nat_eq depth a.depth then w.variable a.function v else local_class w rest depth v

-- of a block, where these functions are active
abbrev pub block_class : World → List Active → BlockName → Class
block_class w active (Local depth v) = local_class w active depth v
block_class w active (Global g) = w.global g
block_class w active (Received n) = w.received n

-- a pointer of this class points to these elements of an object of that class
pub record Agrees (c of : Class) (base count : ℕ) : Type 0 where
  pub object : of.pointer ≡ false
  pub may : (i n : ℕ) → i < count → n < c.size → of.may (cell_at c.size base i + n) ≡ true → c.may n ≡ true
  pub must : (i n : ℕ) → i < count → n < c.size → c.must n ≡ true → of.may (cell_at c.size base i + n) ≡ true

-- a value is of this class, where these functions are active
abbrev pub Fits : World → List Active → Class → Cell → Type 0
Fits w active c (Int v) = Unit {0}
Fits w active c (Ptr Null) = Unit {0}
Fits w active c (Ptr (At block base count index)) = c.pointer ≡ true → Agrees c (block_class w active block) base count
Fits w active c (Sealed h) = (c.pointer ≡ false) × (c.may 0 ≡ true)

-- cells, each of its class
abbrev pub AllFit : World → List Active → (ℕ → Class) → List Cell → Type 0
AllFit w active into [] = Unit {0}
AllFit w active into (v ∷ vs) = Fits w active (into 0) v × AllFit w active (λ n. into (suc n)) vs

-- a handle lies in this cell of an object only where one may
abbrev pub MayLie : Class → ℕ → Cell → Type 0
MayLie c n (Int v) = Unit {0}
MayLie c n (Ptr p) = Unit {0}
MayLie c n (Sealed h) = (c.pointer ≡ false) × (c.may n ≡ true)

abbrev pub cell_of : Blocks → BlockName → ℕ → Cell
cell_of blocks block n = slice_index_or (blocks block).cells n (Int (pos 0))

-- the pointers of each active function point to its own variables, to those of the functions below it, to
-- globals, or to blocks that were received
abbrev pub PointersFit : World → List Active → Blocks → Type 0
PointersFit w [] blocks = Unit {0}
PointersFit w (a ∷ rest) blocks =
    ((v : ℕ) → (w.variable a.function v).pointer ≡ true → Fits w (a ∷ rest) (w.variable a.function v) (cell_of blocks (Local a.depth v) 0)) × PointersFit w rest blocks

pub record MemoryFits (w : World) (active : List Active) (blocks : Blocks) : Type 0 where
  pub handles : (block : BlockName) (n : ℕ) → MayLie (block_class w active block) n (cell_of blocks block n)
  pub pointers : PointersFit w active blocks

-- ---- code

abbrev pub IsFineWork : ProgramTree → World → ℕ → List Work → Type 0
IsFineWork program w f [] = Unit {0}
IsFineWork program w f (run stmts ∷ work) = AreFineStatements w (scope_in program w f) f stmts × IsFineWork program w f work
IsFineWork program w f (head body ∷ work) = AreFineStatements w (scope_in program w f) f body × IsFineWork program w f work

-- a function's result is of a class that the function below it takes; the outermost gives no handle
abbrev pub ResultFits : ProgramTree → World → Active → List Active → Type 0
ResultFits program w a [] = w.result a.function ≡ false
ResultFits program w a (caller ∷ rest) = TakesResult w (scope_in program w caller.function) a.function a.result

abbrev pub AreBelow : ℕ → List Active → Type 0
AreBelow depth [] = Unit {0}
AreBelow depth (a ∷ rest) = (a.depth < depth) × AreBelow depth rest

abbrev pub ActiveFit : ProgramTree → World → List Active → Type 0
ActiveFit program w [] = Unit {0}
ActiveFit program w (a ∷ rest) = IsFineWork program w a.function a.work × ResultFits program w a rest × AreBelow a.depth rest × ActiveFit program w rest

-- the call that was asked for
abbrev pub AwaitedFits : ProgramTree → World → List Active → Option Awaited → Type 0
AwaitedFits program w active None = Unit {0}
AwaitedFits program w [] (Some awaited) = Unit {0}
AwaitedFits program w (a ∷ rest) (Some awaited) = TakesResult w (scope_in program w a.function) awaited.callee awaited.result

pub record Fine (program : ProgramTree) (w : World) (m : Machine) : Type 0 where
  pub memory : MemoryFits w m.active m.blocks
  pub active : ActiveFit program w m.active
  pub awaited : AwaitedFits program w m.active m.awaits
