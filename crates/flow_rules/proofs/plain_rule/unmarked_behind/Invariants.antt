use Rattle.std.proofs.Common.{◌≡◌, ◌++◌, ◌-◌}
use Rattle.std.specs.List.{filter, range_with_len}
use Rattle.flow_rules.specs.Kept.{is_unmarked_at, unmarked_slots}
use Rattle.flow_rules.proofs.plain_rule.unmarked_behind.Given as goal

abbrev pub invariant-loop-leaf : goal.invariant-loop-leaf
invariant-loop-leaf l =
    l.leaves.items ++ filter (is_unmarked_at l.slots l.start) (range_with_len l.leaf (l.count - l.leaf)) ≡ unmarked_slots l.slots l.start l.count
