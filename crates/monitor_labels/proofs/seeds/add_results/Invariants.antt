use Rattle.std.proofs.Common.{◌≡◌, ◌++◌, drop}
use Rattle.pt_core.specs.CodeTree.{numbered}
use Rattle.monitor_labels.specs.Counting.{result_slots}
use Rattle.monitor_labels.proofs.seeds.add_results.Given as goal

-- those so far, and then the others
abbrev pub invariant-loop-entry : goal.invariant-loop-entry
invariant-loop-entry l = l.seeds.items ++ result_slots l.number (numbered (drop l.entry-index l.signatures)) ≡ l.fn.seeds.items ++ result_slots l.from (numbered l.fn.signatures)
