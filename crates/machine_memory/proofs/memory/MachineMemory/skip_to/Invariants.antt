use Rattle.std.proofs.Common.{◌≡◌, ◌<◌, ◌≤◌, ◌-◌, ℕ}
use Rattle.machine_memory.specs.Memory.{blocks_of, frame_at, layouts_of, live_count}
use Rattle.machine_memory.proofs.memory.MachineMemory.skip_to.Given as goal

abbrev pub invariant-loop-self : goal.invariant-loop-self
invariant-loop-self l = record {
  blocks : blocks_of l.self ≡ blocks_of l.fn.self;
  layouts : layouts_of l.self ≡ layouts_of l.fn.self;
  below : l.self.live ≤ l.depth;
  more : live_count l.fn.self ≤ live_count l.self;
  frames : (d : ℕ) → d < live_count l.fn.self → frame_at l.self d ≡ frame_at l.fn.self d;
}

abbrev pub decreases-loop-self : goal.decreases-loop-self
decreases-loop-self l = l.depth - l.self.live
