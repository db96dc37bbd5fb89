use Rattle.std.proofs.Common.{◌≡◌, ◌+◌, ◌++◌, drop}
use Rattle.std.specs.Prelude.{sum_by}
use Rattle.pt_core.specs.CodeTree.{numbered}
use Rattle.monitor_labels.specs.Counting.{sums_from}
use Rattle.monitor_labels.specs.Nodes.{result_one}
use Rattle.monitor_labels.proofs.places.result_numbers.Given as goal

-- what was counted so far, and then the others
abbrev pub invariant-loop-entry : goal.invariant-loop-entry
invariant-loop-entry l = record {
  starts : l.starts.items ++ sums_from result_one l.end (numbered (drop l.entry-index l.signatures)) ≡ sums_from result_one l.from (numbered l.fn.signatures);
  end : l.end + sum_by result_one (numbered (drop l.entry-index l.signatures)) ≡ l.from + sum_by result_one (numbered l.fn.signatures);
}
