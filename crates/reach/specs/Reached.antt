-- Which functions are in a half, as code keeps it.
use Rattle.std.specs.Prelude.{◌≡◌, ◌↔◌, List, Bool, true, false, length, get_or}
use Rattle.pt_base.specs.declared.ids.FnId.{FnId}
use Rattle.typed_tree.specs.TypedTree.{TypedTree}
use Rattle.reach.specs.declared.calls.Half.{Half}
use Rattle.reach.specs.declared.calls.Half.TheVariants.{Monitor, Slave}
use Rattle.reach.specs.Contexts.{InMonitor, InSlave}

abbrev pub InHalf : TypedTree → Half → FnId → Type 0
InHalf t Monitor f = InMonitor t f
InHalf t Slave f = InSlave t f

-- a truth for each function
pub record IsReached (t : TypedTree) (half : Half) (table : List Bool) : Type 0 where
  pub size : length table ≡ length t.functions
  pub same : (f : FnId) → (get_or table f.0 false ≡ true) ↔ InHalf t half f
