use Rattle.std.proofs.Common.{◌∙◌, ◌++◌, [], ap, map, sym}
use Rattle.std.specs.Option.{option_map_or}
use Rattle.sides.specs.Objects.{variable_objects}
use Rattle.typed_tree.specs.TypedTree.{FunctionTree}
use Rattle.typed_tree.specs.TypedView.{view_typed}
use Rattle.flow_rules.specs.Findings.{objects_findings}
use Rattle.flow_rules.specs.FlowsView.{view_flows}
use Rattle.flow_rules.specs.Kept.{kept}
use Rattle.flow_rules.proofs.FindingLemmas.{none_kept}
use Rattle.flow_rules.proofs.ObjectLemmas.{no_variables}
use Rattle.flow_rules.proofs.object_rules.add_variables.Goals as goal

pub returns-in_ok-add_objects-in-Some : goal.returns-in_ok-add_objects-in-Some
returns-in_ok-add_objects-in-Some c =
    let own = c.as_slice-vars.ensures ∙ ap (λ o. option_map_or (λ (x : FunctionTree). x.vars) o []) c.in-Some.ensures in
    c.in_ok-add_objects-in-Some.ensures
    ∙ (λ i. c.args.list.now.items ++ map kept (objects_findings (view_flows c.args.flows.now) (own i) (c.variables_of-objects.ensures i)))

pub returns-in-None : goal.returns-in-None
returns-in-None c =
    none_kept c.args.list.now.items _ (no_variables (view_flows c.args.flows.now) _ (variable_objects (view_typed c.args.flows.now.t.now) c.args.f.0) (sym c.in-None.ensures))
