use Rattle.std.proofs.Common.{◌≡◌, ◌++◌, length}
use Rattle.policy.specs.Lines.{words_of}
use Rattle.policy.specs.Reading.{ranges_of}
use Rattle.policy.proofs.spelling.leading_ranges.Given as goal

-- the ranges so far, and those of the rest
abbrev pub invariant-loop-range : goal.invariant-loop-range
invariant-loop-range l = record {
  ranges : (ranges_of (words_of l.line)).0 ≡ l.ranges.items ++ (ranges_of (words_of l.rest)).0;
  others : (ranges_of (words_of l.line)).1 ≡ (ranges_of (words_of l.rest)).1;
}

abbrev pub decreases-loop-range : goal.decreases-loop-range
decreases-loop-range l = length l.rest
