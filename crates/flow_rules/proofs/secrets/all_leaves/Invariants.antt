use Rattle.std.proofs.Common.{◌≡◌, ◌++◌, ◌-◌}
use Rattle.std.specs.List.{range_with_len}
use Rattle.flow_rules.proofs.secrets.all_leaves.Given as goal

abbrev pub invariant-loop-leaf : goal.invariant-loop-leaf
invariant-loop-leaf l = l.list.items ++ range_with_len l.leaf (l.count - l.leaf) ≡ range_with_len 0 l.count
