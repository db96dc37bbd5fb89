use Rattle.std.proofs.Common.{◌≡◌, ◌++◌, drop, length}
use Rattle.typed_tree.specs.TypedView.{view_typed}
use Rattle.reach.specs.declared.calls.Half.TheVariants.{Monitor, Slave}
use Rattle.reach.specs.CallGraph as is
use Rattle.reach.proofs.calls.call_edges.Given as goal

abbrev pub invariant-loop-function : goal.invariant-loop-function
invariant-loop-function l = record {
  monitor : l.monitor.items ++ is.calls_from (view_typed l.t) Monitor l.caller (length (drop l._function-index l.t.functions.items)) ≡ is.call_edges (view_typed l.fn.t) Monitor;
  slave : l.slave.items ++ is.calls_from (view_typed l.t) Slave l.caller (length (drop l._function-index l.t.functions.items)) ≡ is.call_edges (view_typed l.fn.t) Slave;
}
