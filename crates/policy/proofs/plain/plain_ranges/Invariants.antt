use Rattle.std.proofs.Common.{◌≡◌, ◌++◌, drop, map}
use Rattle.policy.specs.ProgramRules.{are_seen, plain_range}
use Rattle.policy.proofs.plain.plain_ranges.Given as goal

-- the ranges so far were seen
abbrev pub invariant-loop-range : goal.invariant-loop-range
invariant-loop-range l = record {
  seen : are_seen l.params l.ranges ≡ are_seen l.params (drop l.range-index l.ranges);
  plain : map (plain_range l.params) l.ranges ≡ l.plain.items ++ map (plain_range l.params) (drop l.range-index l.ranges);
}
