-- A program has one pair of halves at most, whichever sides are found.
use Rattle.std.proofs.Common.{◌≡◌, map}
use Rattle.pt_base.specs.declared.ids.FnId.{FnId}
use Rattle.pt_base.specs.declared.ids.GlobalId.{GlobalId}
use Rattle.sides.specs.declared.halves.Sides.{Sides}
use Rattle.sides.specs.Placed.{AreSides}
use Rattle.typed_tree.specs.TypedTree.{TypedTree}
use Rattle.splitter.specs.Halves.{halves_of}
use Rattle.sides.proofs.OneSides.{same_slave, same_monitor, same_owned}

pub same_halves : (t : TypedTree) (s s' : Sides) → AreSides t s → AreSides t s' → halves_of s ≡ halves_of s'
same_halves t s s' are are' = λ i. record {
  slave = map (λ (f : FnId). f.0) (same_slave t s s' are are' i);
  monitor = map (λ (f : FnId). f.0) (same_monitor t s s' are are' i);
  owned = map (λ (g : GlobalId). g.0) (same_owned t s s' are are' i);
}
