use Rattle.std.proofs.Common.{◌∙◌, ◌++◌, map}
use Rattle.flow_rules.specs.Findings.{objects_findings}
use Rattle.flow_rules.specs.FlowsView.{view_flows}
use Rattle.flow_rules.specs.Kept.{kept}
use Rattle.flow_rules.proofs.FindingLemmas.{two_kept}
use Rattle.flow_rules.proofs.object_rules.add_globals.Goals as goal

pub returns : goal.returns
returns c =
    let objects = c.as_slice-objects.ensures.value ∙ c.args.flows.now.laid.globals in
    two_kept c.args.list.now.items _ _ _ _
    (c.in_ok-add_global_objects.ensures ∙ (λ i. c.args.list.now.items ++ map kept (objects_findings (view_flows c.args.flows.now) (map (λ x. x.var) (c.as_slice-globals.ensures i)) (objects i))))
    c.in_ok-add_shared.ensures
