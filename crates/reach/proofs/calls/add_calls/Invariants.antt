use Rattle.std.proofs.Common.{◌≡◌, ◌++◌, drop, map}
use Rattle.std.specs.List.{filter, flat_map}
use Rattle.typed_tree.specs.TypedView.{view_typed}
use Rattle.reach.specs.declared.calls.Half.TheVariants.{Monitor, Slave}
use Rattle.reach.specs.CallGraph as is
use Rattle.reach.specs.Contexts.{expr_callees, test_function}
use Rattle.usages.specs.UsageView.{view_usage}
use Rattle.reach.proofs.calls.add_calls.Given as goal

abbrev pub invariant-loop-usage : goal.invariant-loop-usage
invariant-loop-usage l = record {
  monitor : l.monitor.items ++ map (is.call_edge l.caller) (filter (test_function (is.is_entered Monitor) (view_typed l.t)) (flat_map (λ u. expr_callees u.value) (map view_usage (drop l.usage-index l.list))))
      ≡ l.fn.monitor.items ++ is.calls_of (view_typed l.fn.t) Monitor l.fn.caller;
  slave : l.slave.items ++ map (is.call_edge l.caller) (filter (test_function (is.is_entered Slave) (view_typed l.t)) (flat_map (λ u. expr_callees u.value) (map view_usage (drop l.usage-index l.list))))
      ≡ l.fn.slave.items ++ is.calls_of (view_typed l.fn.t) Slave l.fn.caller;
}
