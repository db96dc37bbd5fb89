use Rattle.std.proofs.Common.{◌≡◌, ◌++◌, drop, map}
use Rattle.source_places.specs.Excerpts.{under}
use Rattle.source_places.proofs.excerpts.push_under.Given as goal

abbrev pub invariant-loop-byte : goal.invariant-loop-byte
invariant-loop-byte l = l.text.items ++ map (under l.mark) (drop l.byte-index l.bytes) ≡ l.fn.text.items ++ map (under l.mark) l.fn.bytes
