use Rattle.std.proofs.Common.{◌≡◌, drop}
use Rattle.marshalling.specs.Shape.{all_within}
use Rattle.marshalling.proofs.reach.are_within.Given as goal

abbrev pub invariant-loop-i : goal.invariant-loop-i
invariant-loop-i l = all_within l.structs l.blocks (drop l.i l.params) (drop l.i l.args) ≡ all_within l.structs l.blocks l.params l.args
