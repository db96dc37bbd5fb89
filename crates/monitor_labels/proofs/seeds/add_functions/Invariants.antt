use Rattle.std.proofs.Common.{◌≡◌, ◌++◌, drop, map}
use Rattle.pt_core.specs.CodeTree.{view_function}
use Rattle.monitor_labels.specs.Counting.{function_slots}
use Rattle.monitor_labels.proofs.seeds.add_functions.Given as goal

-- those so far, and then the others
abbrev pub invariant-loop-function : goal.invariant-loop-function
invariant-loop-function l = l.seeds.items ++ function_slots l.known l.number (map view_function (drop l.function-index l.functions)) ≡ l.fn.seeds.items ++ function_slots l.known 0 (map view_function l.fn.functions)
