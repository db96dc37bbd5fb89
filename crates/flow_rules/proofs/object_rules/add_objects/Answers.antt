use Rattle.std.proofs.Common.{◌∙◌, sym}
use Rattle.flow_rules.specs.FlowsView.{view_flows}
use Rattle.flow_rules.proofs.ObjectLemmas.{next_object, nothing_more, objects_end}
use Rattle.flow_rules.proofs.object_rules.add_objects.Goals as goal

pub returns-in_default : goal.returns-in_default
returns-in_default c =
    nothing_more c.loop-number.list.items _ _ (objects_end (view_flows c.args.flows.now) _ c.args.objects.now c.loop-number.number (sym c.in_default.is ∙ c.object_at.ensures)) c.loop-number.invariant

pub loop-number-preserved : goal.loop-number-preserved
loop-number-preserved c =
    next_object (view_flows c.args.flows.now) c.args.vars.now c.args.objects.now c.loop-number.number c.index-vars-number.result c.in-Some.object c.loop-number.list.items _ _
    c.loop-number-test.true c.index-vars-number.is c.in-Some.ensures c.in_ok-add_unpriv.ensures c.loop-number.invariant
