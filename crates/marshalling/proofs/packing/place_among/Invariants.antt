use Rattle.std.proofs.Common.{◌≡◌, ◌+◌, drop}
use Rattle.marshalling.specs.Packing.{number_of}
use Rattle.marshalling.proofs.packing.place_among.Given as goal

abbrev pub invariant-loop-k : goal.invariant-loop-k
invariant-loop-k l = l.k + number_of (drop l.k l.names) l.name ≡ number_of l.names l.name
