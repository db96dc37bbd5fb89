-- How the memories and the states of the two meanings stand to each other.
use Rattle.std.specs.Prelude.{◌≡◌, ◌≤◌, ◌<◌, ◌⊎◌, ℕ, suc, Bool, List, [], ◌∷◌, Option, Some, None, map, length, slice_get}
use Rattle.pt_base.specs.declared.span.Span.{Span}
use Rattle.runs.specs.State as r
use Rattle.runs.specs.State.{gives, trapped, spent}
use Rattle.typed_tree.specs.declared.types.VarTy.{VarTy}
use Rattle.typed_tree.specs.WellFormedExpression.{Names}
use Rattle.block_memory.specs.declared.cell.Cell as core
use Rattle.block_memory.specs.declared.cell.Cell.TheVariants.{Int, Ptr}
use Rattle.block_memory.specs.declared.cell.Pointer.TheVariants.{Null, At}
use Rattle.block_memory.specs.declared.cell.BlockName.{BlockName}
use Rattle.block_memory.specs.declared.cell.BlockName.TheVariants.{Local, Global}
use Rattle.block_memory.specs.Blocks.{Blocks}
use Rattle.source_meaning.specs.Memory.{Block, local, global, Cell, number, null, pointer, Memory}
use Rattle.source_meaning.specs.State.{State, Outcome}
use Rattle.source_meaning.specs.Expressions.{Frame, Calls, Context, sizes}
use Rattle.source_soundness.specs.Worlds.{World, type_in, Fits}
use Rattle.source_soundness.specs.Sizes.{Sized}
use Rattle.pt_core.specs.Statements as c
use Rattle.lowering.specs.Expressions.{Scope}
use Rattle.lowering.specs.Lowered.{Temp}

-- ---- cells and blocks

-- the block that stands for one of the source's
abbrev pub name_of : Block → BlockName
name_of (local depth x) = Local depth x
name_of (global g) = Global g

-- the cell that stands for one of the source's
abbrev pub core_cell : Cell → core.Cell
core_cell (number v) = Int v
core_cell null = Ptr Null
core_cell (pointer block base count index) = Ptr (At (name_of block) base count index)

-- each live object has the same cells in both
abbrev pub SameObjects : World → Memory → Blocks → Type 0
SameObjects w memory blocks = (b : Block) (ty : VarTy) → type_in w b ≡ Some ty → (blocks (name_of b)).cells ≡ map core_cell (memory b)

-- ---- where code runs

-- Where the code of a function runs in both meanings: what its numbers name, the variables of each
-- active function, its frame, and what calls do. In the normal form its variables are followed by
-- temporaries.
pub record Scene : Type 0 where
  pub names : Names
  pub frames : ℕ → List VarTy
  pub frame : Frame
  pub calls : Calls
  pub core_globals : List (ℕ × VarTy)
  pub core_variables : List VarTy
  pub core_calls : c.Calls

abbrev pub global_types : Scene → List VarTy
global_types s = map (λ g. g.var.ty) s.names.globals

abbrev pub variable_types : Scene → List VarTy
variable_types s = map (λ x. x.ty) s.names.vars

abbrev pub world_of : Scene → World
world_of s = record { globals = global_types s; frames = s.frames; depth = s.frame.depth }

abbrev pub context_of : Scene → Context
context_of s = record { structs = s.names.structs; globals = global_types s; variables = variable_types s; frame = s.frame; calls = s.calls }

-- the frame of the normal form's code
abbrev pub frame_of : Scene → c.Frame
frame_of s = record {
  context = record { structs = s.names.structs; globals = s.core_globals; variables = s.core_variables };
  depth = s.frame.depth;
  privileged = s.frame.privileged;
}

-- what the lowering knows
abbrev pub scope_of : Scene → Scope
scope_of s = record { structs = s.names.structs; globals = global_types s; variables = variable_types s }

abbrev pub sizes_in : Scene → List ℕ
sizes_in s = sizes (context_of s)

-- ---- temporaries

-- the temporaries from number n on are these
abbrev pub HasTemps : List VarTy → ℕ → List Temp → Type 0
HasTemps variables n [] = Unit {0}
HasTemps variables n (x ∷ xs) = (slice_get variables n ≡ Some x.ty) × HasTemps variables (suc n) xs

-- each temporary of the function has one cell
abbrev pub HasRoom : Scene → Blocks → Type 0
HasRoom s blocks = (k : ℕ) → length s.names.vars ≤ k → k < length s.core_variables → (x : core.Cell) × ((blocks (Local s.frame.depth k)).cells ≡ x ∷ [])

-- The temporaries of the functions that called this one are as they were, and those of this one of which
-- that is asked.
abbrev pub Kept : Scene → (ℕ → Type 0) → Blocks → Blocks → Type 0
Kept s Keeps before blocks =
    (d k : ℕ) → length (s.frames d) ≤ k → (d < s.frame.depth) ⊎ ((d ≡ s.frame.depth) × Keeps k) → blocks (Local d k) ≡ before (Local d k)

-- ---- states and runs

-- the same was seen, and the same turns are left
pub record SameSeen (st : State) (st' : c.State) : Type 0 where
  pub events : st'.events ≡ st.events
  pub left : st'.left ≡ st.left

-- two states in which the same goes on; what is live has its kinds and sizes
pub record Alike (s : Scene) (st : State) (st' : c.State) : Type 0 where
  pub objects : SameObjects (world_of s) st.memory st'.memory
  pub room : HasRoom s st'.memory
  pub fits : Fits (world_of s) st.memory
  pub sized : Sized (world_of s) (sizes_in s) st.memory
  pub hosts : st'.hosts ≡ st.hosts
  pub input : st'.input ≡ st.input
  pub seen : SameSeen st st'

-- Two parts of runs come to the same: both give something, of which this holds, or both end with the same
-- trap at the same place, or both have spent their budgets.
abbrev pub Same : {A B : Type 0} → (A → State → B → c.State → Type 0) → Outcome A → c.Outcome B → Type 0
Same Q (gives a st) (gives b st') = Q a st b st'
Same Q (gives a st) (trapped trap span st') = ⊥
Same Q (gives a st) (spent st') = ⊥
Same Q (trapped trap span st) (gives b st') = ⊥
Same Q (trapped trap span st) (trapped trap' span' st') = (trap' ≡ trap) × (span' ≡ span) × SameSeen st st'
Same Q (trapped trap span st) (spent st') = ⊥
Same Q (spent st) (gives b st') = ⊥
Same Q (spent st) (trapped trap span st') = ⊥
Same Q (spent st) (spent st') = SameSeen st st'

-- what holds after a part of a run: the states are alike, and temporaries are kept
pub record After (s : Scene) (Keeps : ℕ → Type 0) (before : Blocks) (st : State) (st' : c.State) : Type 0 where
  pub alike : Alike s st st'
  pub kept : Kept s Keeps before st'.memory

abbrev pub below : ℕ → ℕ → Type 0
below n k = k < n

abbrev pub all : ℕ → Type 0
all k = Unit {0}
