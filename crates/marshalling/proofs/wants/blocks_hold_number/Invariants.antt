use Rattle.std.proofs.Common.{◌≡◌, drop}
use Rattle.marshalling.specs.Ranges.{crossing_among}
use Rattle.marshalling.specs.Replies.{has_plain, places_of, types_of}
use Rattle.marshalling.proofs.wants.blocks_hold_number.Given as goal

abbrev pub invariant-loop-k : goal.invariant-loop-k
invariant-loop-k l = has_plain (places_of (crossing_among l.ranges) l.k (types_of (drop l.k l.blocks)))
    ≡ has_plain (places_of (crossing_among l.ranges) 0 (types_of l.blocks))
