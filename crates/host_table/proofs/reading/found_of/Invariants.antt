use Rattle.std.proofs.Common.{◌≡◌, ◌++◌, [], take, drop}
use Rattle.serde_json.specs.View.{view}
use Rattle.host_table.specs.Found.{models_from, signatures_in}
use Rattle.host_table.specs.HostFaults.{faults_after, is_taken}
use Rattle.host_table.proofs.reading.found_of.Given as goal

abbrev pub invariant-loop-number : goal.invariant-loop-number
invariant-loop-number l = record {
  faults : l.found.faults.items ++ faults_after (view l.table) (signatures_in (take l.number l.fns)) (signatures_in (drop l.number l.fns)) ≡ faults_after (view l.table) [] (signatures_in l.fns);
  models : l.found.models.items ++ models_from (view l.table) l.number (signatures_in (drop l.number l.fns)) ≡ models_from (view l.table) 0 (signatures_in l.fns);
  has_input : l.found.has_input ≡ is_taken (view l.table) (signatures_in (take l.number l.fns));
}
