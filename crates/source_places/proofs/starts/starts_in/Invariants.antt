use Rattle.std.proofs.Common.{◌≡◌, ◌++◌, drop}
use Rattle.source_places.specs.Starts.{starts_of}
use Rattle.source_places.proofs.starts.starts_in.Given as goal

abbrev pub invariant-loop-byte : goal.invariant-loop-byte
invariant-loop-byte l = (l.list.items ++ starts_of l.at (drop l.byte-index l.text) ≡ starts_of 0 l.fn.text) × (l.at ≡ l.byte-index)
