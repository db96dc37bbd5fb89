use Rattle.std.proofs.Common.{◌≡◌, drop}
use Rattle.marshalling.specs.Shape.{are_named}
use Rattle.marshalling.proofs.shape.are_named.Given as goal

abbrev pub invariant-loop-k : goal.invariant-loop-k
invariant-loop-k l = are_named l.args l.k (drop l.k l.blocks) ≡ are_named l.args 0 l.blocks
