use Rattle.std.proofs.Common.{◌≡◌, drop}
use Rattle.marshalling.specs.Ranges.{crossing_among}
use Rattle.marshalling.specs.Replies.{block_types, has_plain, places_from}
use Rattle.marshalling.proofs.wants.holds_number.Given as goal

abbrev pub invariant-loop-i : goal.invariant-loop-i
invariant-loop-i l = has_plain (places_from (crossing_among l.ranges) l.k l.i (block_types (drop l.i l.block)))
    ≡ has_plain (places_from (crossing_among l.ranges) l.k 0 (block_types l.block))
