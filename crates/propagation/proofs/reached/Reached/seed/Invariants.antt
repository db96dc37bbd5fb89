use Rattle.std.proofs.Common.{◌≡◌, ◌<◌, ℕ, List, length, get_or}
use Rattle.pt_base.specs.declared.slot.Edge.{Edge}
use Rattle.propagation.specs.Levels.{AreRoots}
use Rattle.propagation.specs.Reached.{AreSound, HasPlace}
use Rattle.propagation.proofs.SlotLemmas.{zero_slot}
use Rattle.propagation.proofs.reached.Reached.seed.Given as goal

abbrev pub invariant-loop-seed : goal.invariant-loop-seed
invariant-loop-seed l = record {
  size : length l.self.places.items ≡ length l.initial.self.places.items;
  sound : (edges : List Edge) → AreSound l.seeds edges (length l.initial.self.places.items) l.initial.self.places.items l.initial.self.order.items → AreSound l.seeds edges (length l.initial.self.places.items) l.self.places.items l.self.order.items;
  roots : AreRoots l.initial.self.order.items → AreRoots l.self.order.items;
  done : (k : ℕ) → k < l.seed-index → HasPlace l.self.places.items (get_or l.seeds k zero_slot);
}
