use Rattle.std.proofs.Common.{◌≡◌, length}
use Rattle.sides.specs.Patterns.{ArePatterns}
use Rattle.sides.proofs.patterns.patterns_of.Given as goal

abbrev pub invariant-loop-truth : goal.invariant-loop-truth
invariant-loop-truth l = record {
  count : l.number ≡ length l.patterns.items;
  are : ArePatterns l.structs l.patterns.items;
}
