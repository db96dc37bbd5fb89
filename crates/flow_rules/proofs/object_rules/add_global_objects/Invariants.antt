use Rattle.std.proofs.Common.{◌≡◌, ◌++◌, drop, map}
use Rattle.flow_rules.specs.Findings.{objects_findings}
use Rattle.flow_rules.specs.FlowsView.{view_flows}
use Rattle.flow_rules.specs.Kept.{kept}
use Rattle.flow_rules.proofs.object_rules.add_global_objects.Given as goal

abbrev pub invariant-loop-number : goal.invariant-loop-number
invariant-loop-number l =
    l.list.items ++ map kept (objects_findings (view_flows l.flows) (map (λ x. x.var) (drop l.number l.globals)) (drop l.number l.objects))
    ≡ l.fn.list.items ++ map kept (objects_findings (view_flows l.flows) (map (λ x. x.var) l.globals) l.objects)
