-- The two parts: a slave, and a body that a monitor serves.
use Rattle.std.specs.Prelude.{◌≡◌, ◌≤◌, ◌<◌, ◌+◌, ℕ, true, false, List, IsTrue, length, slice_index_or}
use Rattle.handle_store.specs.Stored.{AreInRange}
use Rattle.block_memory.specs.declared.cell.BlockName.{BlockName}
use Rattle.block_memory.specs.declared.cell.BlockName.TheVariants.{Received}
use Rattle.block_memory.specs.Blocks.{Blocks}
use Rattle.pt_core.specs.CodeTree.{ProgramTree}
use Rattle.pt_core.specs.Steps.{Machine}
use Rattle.pt_core.specs.WellFormed.{is_sound}
use Rattle.core_soundness_law.specs.Fits.{Fits}
use Rattle.core_soundness_law.specs.Kept.{by_store, none}
use Rattle.marshalling.specs.Handles.{Entries}
use Rattle.marshalling.specs.Packing.{are_distinct}
use Rattle.part_views_law.specs.Views.{is_own, served_view, slave_view}
use Rattle.part_views_law.specs.StepsParts.{AllAbove, IsPart, IsViewed, Stands}

-- A slave whose machine fits by a store of numbers of their types is shown in the whole's, beside any memory of the monitor's.
abbrev pub SlavesStand : Type 0
SlavesStand = (whole slave : ProgramTree) (store : Entries) (beside : Blocks) (turns n : ℕ) (x : Machine) →
    IsPart slave whole → IsTrue (is_sound false slave) → AreInRange store → Fits (by_store store) false slave x → AllAbove 0 false x.active → n ≤ x.budget + turns →
    IsViewed (slave_view slave store beside) 0 false slave whole × Stands (slave_view slave store beside) 0 false turns n slave x

-- So is a body of the monitor's whose machine fits without handles. It has received no more blocks than these names, each of
-- them once, and those with integers under names that aren't its own; its functions are deeper than the one that asked for it.
abbrev pub BodiesStand : Type 0
BodiesStand = (whole monitor : ProgramTree) (base : ℕ) (names : List BlockName) (beside : Blocks) (turns n : ℕ) (x : Machine) →
    IsPart monitor whole → IsTrue (is_sound true monitor) → Fits none true monitor x →
    are_distinct names ≡ true → ((k : ℕ) → 1 ≤ length (x.blocks (Received k)).types → k < length names) →
    ((k : ℕ) → 1 ≤ length (x.blocks (Received k)).types → is_own monitor base (slice_index_or names k (Received k)) ≡ false) →
    AllAbove base true x.active → n ≤ x.budget + turns →
    IsViewed (served_view monitor base names beside) base true monitor whole × Stands (served_view monitor base names beside) base true turns n monitor x
