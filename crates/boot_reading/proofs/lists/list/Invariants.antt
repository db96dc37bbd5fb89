use Rattle.std.proofs.Common.{◌≡◌, ◌-◌, map}
use Rattle.boot_fields.specs.Reading.{many, list_at}
use Rattle.boot_reading.proofs.Loop.{with_front}
use Rattle.boot_reading.proofs.lists.list.Given as goal

abbrev pub invariant-loop : goal.invariant-loop
invariant-loop g l = with_front (map g.T.Part.seen l.items.items) (many g.T.Part.part (l.count - l.counter) l.rest) ≡ list_at g.T.Part.part l.bytes
