-- What contracts see of what the rules look at.
use Rattle.typed_tree.specs.TypedView.{view_typed}
use Rattle.flow_rules.specs.declared.flows.Flows.{Flows}
use Rattle.flow_rules.specs.Faults.{flows_of}
use Rattle.flow_rules.specs.Secrets as is

abbrev pub view_flows : Flows → is.Flows
view_flows p = flows_of (view_typed p.t.now) p.sides.now p.marks.now
