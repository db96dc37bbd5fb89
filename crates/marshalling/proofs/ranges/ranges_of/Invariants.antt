use Rattle.std.proofs.Common.{◌≡◌, ℕ, drop}
use Rattle.marshalling.specs.Crossings.{crossing_of, stronger}
use Rattle.marshalling.specs.Ranges.{crossing_among}
use Rattle.marshalling.proofs.ranges.ranges_of.Given as goal

-- the ranges so far and the arguments that are left
abbrev pub invariant-loop-i : goal.invariant-loop-i
invariant-loop-i l = (k n : ℕ)
    → stronger (crossing_among l.ranges.items k n)
    (crossing_of l.structs (drop l.i l.params) (drop l.i l.args) k n) ≡ crossing_of l.structs l.params l.args k n
