-- How the memory of a part of a program is seen in the whole's: a slave's, and that of a body that a monitor serves.
use Rattle.std.specs.Prelude.{◌≡◌, ℕ, List, [], map, slice_index_or, Bool, true, false, nat_eq, nat_lt, if◌then◌else◌, Option, Some, None, is_some}
use Rattle.std.specs.Map.{lookup}
use Rattle.block_memory.specs.declared.cell.Cell.{Cell}
use Rattle.block_memory.specs.declared.cell.Cell.TheVariants as cell
use Rattle.block_memory.specs.declared.cell.Pointer.TheVariants.{Null, At}
use Rattle.block_memory.specs.declared.cell.BlockName.{BlockName}
use Rattle.block_memory.specs.declared.cell.BlockName.TheVariants.{Local, Global, Received}
use Rattle.block_memory.specs.Block.{Block}
use Rattle.block_memory.specs.Blocks.{Blocks}
use Rattle.pt_core.specs.CodeTree.{ProgramTree}
use Rattle.pt_core.specs.Calls.{context_in}
use Rattle.marshalling.specs.Handles.{Entries, stored}
use Rattle.marshalling.specs.Packing.{is_among, number_of}

-- Where blocks of a part lie in the whole; of a name of the whole, the block of the part that lies there; what handles stand
-- for; and the other blocks of the whole.
pub record View : Type 0 where
  pub at : BlockName → BlockName
  pub of : BlockName → Option BlockName
  pub store : Entries
  pub beside : Blocks

abbrev pub seen_cell : View → Cell → Cell
seen_cell v (cell.Int n) = cell.Int n
seen_cell v (cell.Ptr Null) = cell.Ptr Null
seen_cell v (cell.Ptr (At block base count index)) = cell.Ptr (At (v.at block) base count index)
seen_cell v (cell.Sealed handle) = cell.Int (stored v.store handle)

-- cells are seen, and types stay
abbrev pub seen_block : View → Block → Block
seen_block v block = record { types = block.types; cells = map (seen_cell v) block.cells }

abbrev pub lying : View → Blocks → BlockName → Option BlockName → Block
lying v blocks name (Some block) = seen_block v (blocks block)
lying v blocks name None = v.beside name

abbrev pub seen : View → Blocks → Blocks
seen v blocks = λ name. lying v blocks name (v.of name)

-- ---- which views are those of a part

abbrev pub has_global : ProgramTree → ℕ → Bool
has_global part g = is_some (lookup (nat_eq g) (context_in part 0).globals)

-- the part's own names: its globals, and what is local to a function that is deeper than `base`
abbrev pub is_own : ProgramTree → ℕ → BlockName → Bool
is_own part base (Local depth v) = nat_lt base depth
is_own part base (Global g) = has_global part g
is_own part base (Received n) = false

-- the block lies where it is found again
abbrev pub Lies : View → BlockName → Type 0
Lies v block = v.of (v.at block) ≡ Some block

-- What is the part's own lies under its own name, and two names of the whole are no one block's.
pub record IsView (v : View) (base : ℕ) (part : ProgramTree) : Type 0 where
  pub own : (name : BlockName) → is_own part base name ≡ true → (v.at name ≡ name) × (v.of name ≡ Some name)
  pub back : (name block : BlockName) → v.of name ≡ Some block → v.at block ≡ name

-- ---- the slave: its blocks lie under their own names; the other globals are the monitor's

abbrev pub slave_of : ProgramTree → BlockName → Option BlockName
slave_of part (Local depth v) = Some (Local depth v)
slave_of part (Global g) = if has_global part g then Some (Global g) else None
slave_of part (Received n) = Some (Received n)

abbrev pub slave_view : ProgramTree → Entries → Blocks → View
slave_view part store beside = record { at = λ name. name; of = slave_of part; store = store; beside = beside }

-- ---- a body: what it received lies under the names that were packed

abbrev pub served_at : List BlockName → BlockName → BlockName
served_at names (Local depth v) = Local depth v
served_at names (Global g) = Global g
served_at names (Received k) = slice_index_or names k (Received k)

abbrev pub served_of : ProgramTree → ℕ → List BlockName → BlockName → Option BlockName
served_of part base names name =
    if is_own part base name then Some name else (if is_among names name then Some (Received (number_of names name)) else None)

-- a monitor has no handle, so no store is asked
abbrev pub served_view : ProgramTree → ℕ → List BlockName → Blocks → View
served_view part base names beside = record { at = served_at names; of = served_of part base names; store = []; beside = beside }
