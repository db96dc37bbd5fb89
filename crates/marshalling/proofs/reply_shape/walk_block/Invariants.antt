use Rattle.std.proofs.Common.{drop}
use Rattle.marshalling.specs.Ranges.{crossing_among}
use Rattle.marshalling.specs.Replies.{places_from}
use Rattle.marshalling.proofs.WalkLemmas.{Left}
use Rattle.marshalling.proofs.reply_shape.walk_block.Given as goal

abbrev pub invariant-loop-i : goal.invariant-loop-i
invariant-loop-i l = Left (places_from (crossing_among l.ranges) l.k 0 l.types)
    (places_from (crossing_among l.ranges) l.k l.i (drop l.i l.types)) l.fn.start l.walk l.cells
