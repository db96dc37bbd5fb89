use Rattle.std.proofs.Common.{◌≡◌, map}
use Rattle.pt_core.specs.CodeTree.{view_function}
use Rattle.splitter.specs.Halves.{chosen_functions}
use Rattle.splitter.specs.Sets.{is_set}
use Rattle.splitter.proofs.functions.share_out.Given as goal

-- of the functions so far
abbrev pub invariant-loop-function : goal.invariant-loop-function
invariant-loop-function l = record {
  slave : map view_function l.slave.items ≡ chosen_functions (is_set l.fn.in_slave) (map view_function l.yielded);
  monitor : map view_function l.monitor.items ≡ chosen_functions (is_set l.fn.in_monitor) (map view_function l.yielded);
}
