use Rattle.std.proofs.Common.{◌≡◌, ◌-◌}
use Rattle.wire.specs.Reading.{many, block_at}
use Rattle.wire.proofs.Loop.{with_front}
use Rattle.wire.proofs.reading.lists.blocks_of.Given as goal

abbrev pub invariant-loop : goal.invariant-loop
invariant-loop l = with_front l.items.items (many block_at (l.count - l.counter) l.rest) ≡ many block_at l.count l.bytes
