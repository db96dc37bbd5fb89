use Rattle.std.proofs.Common.{◌≡◌, Some, drop}
use Rattle.typed_tree.specs.TypedView.{view_typed}
use Rattle.flow_rules.specs.FlowsView.{view_flows}
use Rattle.flow_rules.specs.Kept.{first_of}
use Rattle.flow_rules.specs.Memory.{Knows}
use Rattle.flow_rules.specs.Secrets.{secret_slots, unmarked_leaves}
use Rattle.flow_rules.proofs.plain_rule.first_unmarked.Given as goal

abbrev pub invariant-loop-start : goal.invariant-loop-start
invariant-loop-start l = record {
  secret : first_of (secret_slots (view_flows l.flows) (drop l.start-index l.starts) (unmarked_leaves (view_typed l.flows.t.now).structs (Some l.ty)))
      ≡ first_of (secret_slots (view_flows l.flows) l.fn.starts (unmarked_leaves (view_typed l.flows.t.now).structs (Some l.ty)));
  memo : Knows (view_flows l.flows) l.memo;
}
