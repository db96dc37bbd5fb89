use Rattle.std.proofs.Common.{◌≡◌, ◌++◌, drop}
use Rattle.source_places.specs.Shown.{shown_bytes}
use Rattle.source_places.proofs.shown.push_shown.Given as goal

abbrev pub invariant-loop-byte : goal.invariant-loop-byte
invariant-loop-byte l = l.out.items ++ shown_bytes (drop l.byte-index l.bytes) ≡ l.fn.out.items ++ shown_bytes l.fn.bytes
