use Rattle.std.proofs.Common.{drop, map}
use Rattle.machine_memory.specs.Memory.{blocks_of}
use Rattle.marshalling.specs.Ranges.{crossing_among}
use Rattle.marshalling.specs.Replies.{places_of}
use Rattle.marshalling.proofs.WalkLemmas.{Left}
use Rattle.marshalling.proofs.reply_shape.walk_blocks.Given as goal

abbrev pub invariant-loop-k : goal.invariant-loop-k
invariant-loop-k l =
    Left (places_of (crossing_among l.ranges) 0 (map (λ name. (blocks_of l.memory name).types) l.names))
    (places_of (crossing_among l.ranges) l.k (map (λ name. (blocks_of l.memory name).types) (drop l.k l.names))) l.fn.start l.walk l.cells
