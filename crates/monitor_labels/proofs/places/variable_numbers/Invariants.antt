use Rattle.std.proofs.Common.{◌≡◌, ◌+◌, ◌++◌, drop, map}
use Rattle.std.specs.Prelude.{sum_by}
use Rattle.pt_core.specs.CodeTree.{view_function}
use Rattle.monitor_labels.specs.Counting.{sums_from}
use Rattle.monitor_labels.specs.Nodes.{own_count}
use Rattle.monitor_labels.proofs.places.variable_numbers.Given as goal

-- what was counted so far, and then the others
abbrev pub invariant-loop-function : goal.invariant-loop-function
invariant-loop-function l = record {
  starts : l.starts.items ++ sums_from own_count l.end (map view_function (drop l.function-index l.functions)) ≡ sums_from own_count 0 (map view_function l.fn.functions);
  end : l.end + sum_by own_count (map view_function (drop l.function-index l.functions)) ≡ sum_by own_count (map view_function l.fn.functions);
}
