use Rattle.std.proofs.Common.{◌≡◌, ◌-◌}
use Rattle.wire.specs.Reading.{many, cell_at}
use Rattle.wire.proofs.Loop.{with_front}
use Rattle.wire.proofs.reading.lists.cells_of.Given as goal

abbrev pub invariant-loop : goal.invariant-loop
invariant-loop l = with_front l.items.items (many cell_at (l.count - l.counter) l.rest) ≡ many cell_at l.count l.bytes
