use Rattle.std.proofs.Common.{◌<◌, ℕ}
use Rattle.machine_memory.specs.Held.{IsRead}
use Rattle.machine_memory.proofs.held.common_reading.Given as goal

abbrev pub invariant-loop-t : goal.invariant-loop-t
invariant-loop-t l = (at : ℕ) → at < l.t-index → IsRead l.types at l.wide
