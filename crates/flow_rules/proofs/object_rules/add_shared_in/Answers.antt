use Rattle.flow_rules.proofs.ObjectLemmas.{next_shared}
use Rattle.flow_rules.proofs.object_rules.add_shared_in.Goals as goal

pub loop-number-preserved : goal.loop-number-preserved
loop-number-preserved c =
    next_shared c.args.slave.now c.args.monitor.now c.args.globals.now c.loop-number.number c.index-globals-number.result _ c.loop-number.list.items _ _
    c.loop-number-test.true c.index-globals-number.is c.is_shared-wrong.ensures c.in_ok-add_if.ensures c.loop-number.invariant
