use Rattle.std.proofs.Common.{◌≡◌, drop}
use Rattle.marshalling.specs.Crossings.{stronger}
use Rattle.marshalling.specs.Ranges.{crossing_among}
use Rattle.marshalling.proofs.ranges.crossing_at.Given as goal

abbrev pub invariant-loop-range : goal.invariant-loop-range
invariant-loop-range l = stronger l.crossing (crossing_among (drop l.range-index l.ranges) l.block l.cell) ≡ crossing_among l.ranges l.block l.cell
