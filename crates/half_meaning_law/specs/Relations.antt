-- How the memories and the states of the two meanings stand to each other: a half's variables have the
-- same numbers in both, its globals and functions each their number by place.
use Rattle.std.specs.Prelude.{◌≡◌, ◌≤◌, ℕ, List, Option, Some, None, length, map, slice_get}
use Rattle.runs.specs.State.{Event, out, guarded, gives, trapped, spent}
use Rattle.typed_tree.specs.declared.types.VarTy.{VarTy}
use Rattle.typed_tree.specs.declared.types.VarTy.TheVariants.{Int, Struct, Array, Pointer}
use Rattle.typed_tree.specs.Cells.{cells_of}
use Rattle.block_memory.specs.declared.cell.Cell as core
use Rattle.block_memory.specs.declared.cell.Cell.TheVariants.{Int as int_cell, Ptr}
use Rattle.block_memory.specs.declared.cell.Pointer.TheVariants.{Null, At}
use Rattle.block_memory.specs.declared.cell.BlockName.{BlockName}
use Rattle.block_memory.specs.declared.cell.BlockName.TheVariants.{Local, Global}
use Rattle.block_memory.specs.Blocks.{Blocks}
use Rattle.source_meaning.specs.Memory.{Block, local, global, Cell, number, null, pointer, read, Memory}
use Rattle.source_meaning.specs.State.{State, Outcome}
use Rattle.source_meaning.specs.Expressions as m
use Rattle.pt_core.specs.Types.{Context, type_at}
use Rattle.pt_core.specs.Statements as c
pub use Rattle.source_meaning.specs.Memory.{depth_of}
pub use Rattle.typed_tree.specs.TypeTests.{is_pointer}

-- ---- where code runs

-- Where the code of a function runs in both meanings: what its numbers name in the normal form, what the
-- places of the C text's globals and functions are there, the variables of each active function, the frame,
-- and what calls do.
pub record Scene : Type 0 where
  pub context : Context
  -- the types of the text's globals, in its order
  pub globals : List VarTy
  -- the number in the normal form of the global at this place of the text, and of the function
  pub global_number : ℕ → ℕ
  pub function_number : ℕ → ℕ
  -- the types of the variables of the active function at this depth
  pub frames : ℕ → List VarTy
  pub frame : m.Frame
  pub calls : m.Calls
  pub core_calls : c.Calls

-- what the text's expressions are evaluated with
abbrev pub context_of : Scene → m.Context
context_of s = record { structs = s.context.structs; globals = s.globals; variables = s.context.variables; frame = s.frame; calls = s.calls }

-- the frame of the normal form's code
abbrev pub frame_of : Scene → c.Frame
frame_of s = record { context = s.context; depth = s.frame.depth; privileged = s.frame.privileged }

-- ---- cells and blocks

-- the block that stands for one of the source's
abbrev pub name_of : Scene → Block → BlockName
name_of s (local depth x) = Local depth x
name_of s (global g) = Global (s.global_number g)

-- the cell that stands for one of the source's; none of these is a handle
abbrev pub core_cell : Scene → Cell → core.Cell
core_cell s (number v) = int_cell v
core_cell s null = Ptr Null
core_cell s (pointer block base count index) = Ptr (At (name_of s block) base count index)

-- each block has the same cells in both
abbrev pub SameBlocks : Scene → Memory → Blocks → Type 0
SameBlocks s memory blocks = (b : Block) → (blocks (name_of s b)).cells ≡ map (core_cell s) (memory b)

-- ---- what cells hold

-- how deep the pointers may lead that an object of the type holds, where it belongs to a function of this depth;
-- None: it holds no pointers
abbrev pub reach_by : ℕ → VarTy → Option ℕ
reach_by depth (Int t) = None
reach_by depth (Struct n) = None
reach_by depth (Array elem count) = None
reach_by depth (Pointer elem fixed) = Some depth

-- what the active function evaluates, and what a block holds
abbrev pub reach_of : Scene → VarTy → Option ℕ
reach_of s ty = reach_by s.frame.depth ty

abbrev pub reach_in : Scene → Block → Option ℕ
reach_in s (local depth x) = reach_by depth (type_at (s.frames depth) x)
reach_in s (global g) = None

-- What is no pointer variable holds numbers alone. A pointer leads to no pointer variable, and to none of a
-- function that was called later than the one that holds it.
abbrev pub CellFits : Scene → Option ℕ → Cell → Type 0
CellFits s reach (number v) = Unit {0}
CellFits s (Some depth) null = Unit {0}
CellFits s None null = ⊥
CellFits s (Some depth) (pointer block base count index) = (depth_of block ≤ depth) × (reach_in s block ≡ None)
CellFits s None (pointer block base count index) = ⊥

abbrev pub MemoryFits : Scene → Memory → Type 0
MemoryFits s memory = (b : Block) (k : ℕ) → CellFits s (reach_in s b) (read memory b k)

-- ---- states and runs

-- the event with the function's number in the normal form
abbrev pub core_event : Scene → Event → Event
core_event s (out bytes) = out bytes
core_event s (guarded f numbers) = guarded (s.function_number f) numbers

-- the same was seen, and the same turns are left
pub record SameSeen (s : Scene) (st : State) (st' : c.State) : Type 0 where
  pub events : st'.events ≡ map (core_event s) st.events
  pub left : st'.left ≡ st.left

-- how many cells an object of this type has
abbrev pub cells_in : Scene → VarTy → ℕ
cells_in s (Int t) = 1
cells_in s (Struct n) = cells_of s.context.structs (Struct n)
cells_in s (Array elem count) = cells_of s.context.structs (Array elem count)
cells_in s (Pointer elem fixed) = 1

-- how many cells a variable has, and none where there is none
abbrev pub room_of : Scene → Option VarTy → ℕ
room_of s None = 0
room_of s (Some ty) = cells_in s ty

-- the variables of each active function have their cells, and no other local is live
abbrev pub VariablesLive : Scene → Memory → Type 0
VariablesLive s memory = (depth v : ℕ) → length (memory (local depth v)) ≡ room_of s (slice_get (s.frames depth) v)

-- two states in which the same goes on
pub record Alike (s : Scene) (st : State) (st' : c.State) : Type 0 where
  pub blocks : SameBlocks s st.memory st'.memory
  pub fits : MemoryFits s st.memory
  pub live : VariablesLive s st.memory
  pub hosts : (f : ℕ) → st'.hosts (s.function_number f) ≡ st.hosts f
  pub input : st'.input ≡ st.input
  pub seen : SameSeen s st st'

-- Two parts of runs come to the same: both give something, of which this holds, or both end with the same
-- trap, wherever it is reported, or both have spent their budgets.
abbrev pub Same : {A B : Type 0} → Scene → (A → State → B → c.State → Type 0) → Outcome A → c.Outcome B → Type 0
Same s Q (gives a st) (gives b st') = Q a st b st'
Same s Q (gives a st) (trapped trap span st') = ⊥
Same s Q (gives a st) (spent st') = ⊥
Same s Q (trapped trap span st) (gives b st') = ⊥
Same s Q (trapped trap span st) (trapped trap' span' st') = (trap' ≡ trap) × SameSeen s st st'
Same s Q (trapped trap span st) (spent st') = ⊥
Same s Q (spent st) (gives b st') = ⊥
Same s Q (spent st) (trapped trap span st') = ⊥
Same s Q (spent st) (spent st') = SameSeen s st st'
