-- What `place` tells of a program.
use Rattle.std.specs.Prelude.{◌≡◌, ◌≤◌, ◌^◌, length}
use Rattle.typed_tree.specs.TypedTree.{TypedTree}
use Rattle.reach.specs.declared.calls.Half.TheVariants.{Slave}
use Rattle.sides.specs.declared.halves.Sides.{Sides}
use Rattle.reach.specs.Contexts.{InMonitor, InSlave, IsOwned}
use Rattle.sides.specs.Layouts.{IsLayout}
use Rattle.reach.specs.Reached.{IsReached}
use Rattle.sides.specs.Seeds.{IsSeed}
use Rattle.sides.specs.Slots.{slots_of}
use Rattle.reach.specs.Sorted.{Lists}

-- the halves of a program, its slots and its seeds; there are at most 2^25 slots
pub record AreSides (t : TypedTree) (s : Sides) : Type 0 where
  pub monitor : Lists (λ f. f.0) (InMonitor t) s.monitor
  pub slave : Lists (λ f. f.0) (InSlave t) s.slave
  pub owned : Lists (λ g. g.0) (IsOwned t) s.owned
  pub slots : s.slots ≡ slots_of t
  pub few : length s.slots ≤ 2 ^ 25
  pub seeds : Lists (λ x. x.0) (IsSeed t) s.seeds
  -- what makes both quick to ask
  pub layout : IsLayout t s.layout
  pub table : IsReached t Slave s.in_slave.items
