use Rattle.std.proofs.Common.{◌∙◌, drop, sym}
use Rattle.flow_rules.specs.FlowsView.{view_flows}
use Rattle.flow_rules.proofs.ObjectLemmas.{globals_end, next_global, nothing_more}
use Rattle.flow_rules.proofs.object_rules.add_global_objects.Goals as goal

pub returns-in_default : goal.returns-in_default
returns-in_default c =
    nothing_more c.loop-number.list.items _ _ (globals_end (view_flows c.args.flows.now) (drop c.loop-number.number c.args.globals.now) c.args.objects.now c.loop-number.number (sym c.in_default.is ∙ c.object_at.ensures))
    c.loop-number.invariant

pub loop-number-preserved : goal.loop-number-preserved
loop-number-preserved c =
    next_global (view_flows c.args.flows.now) c.args.globals.now c.args.objects.now c.loop-number.number c.index-globals-number.result c.in-Some.object c.loop-number.list.items _ _
    c.loop-number-test.true c.index-globals-number.is c.in-Some.ensures c.in_ok-add_unpriv.ensures c.loop-number.invariant
