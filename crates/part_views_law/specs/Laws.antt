-- The slave's view and a served body's are views.
use Rattle.std.specs.Prelude.{◌≡◌, ◌<◌, ℕ, true, false, List, length, slice_index_or}
use Rattle.block_memory.specs.declared.cell.BlockName.{BlockName}
use Rattle.block_memory.specs.declared.cell.BlockName.TheVariants.{Received}
use Rattle.block_memory.specs.Blocks.{Blocks}
use Rattle.pt_core.specs.CodeTree.{ProgramTree}
use Rattle.marshalling.specs.Handles.{Entries}
use Rattle.marshalling.specs.Packing.{are_distinct}
use Rattle.part_views_law.specs.Views.{IsView, Lies, is_own, served_view, slave_view}

-- A slave's view is one.
abbrev pub SlavesAreViewed : Type 0
SlavesAreViewed = (slave : ProgramTree) (base : ℕ) (store : Entries) (beside : Blocks) → IsView (slave_view slave store beside) base slave

-- So is that of a served body.
abbrev pub ServedAreViewed : Type 0
ServedAreViewed = (monitor : ProgramTree) (base : ℕ) (names : List BlockName) (beside : Blocks) → IsView (served_view monitor base names beside) base monitor

-- Where the packed names are distinct, a received block whose packed name isn't the body's own lies under that name.
abbrev pub ReceivedLie : Type 0
ReceivedLie = (monitor : ProgramTree) (base : ℕ) (names : List BlockName) (beside : Blocks) (k : ℕ) →
    are_distinct names ≡ true → k < length names → is_own monitor base (slice_index_or names k (Received k)) ≡ false →
    Lies (served_view monitor base names beside) (Received k)
