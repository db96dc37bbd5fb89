use Rattle.std.proofs.Common.{ap, not}
use Rattle.pt_base.proofs.Places.{drop_step_at}
use Rattle.pt_core.specs.CodeTree.{GlobalTree}
use Rattle.splitter.specs.Sets.{is_set}
use Rattle.splitter.proofs.WalkLemmas.{global_kept}
use Rattle.splitter.proofs.globals.share_globals.Goals as goal

pub loop-global-preserved : goal.loop-global-preserved
loop-global-preserved c =
    let split = drop_step_at c.as_slice-globals.result.now c.loop-global.global-index c.global-item.result c.loop-global-test.true c.global-item.is in
    record {
      slave = global_kept (λ (g : GlobalTree). is_set c.args.owned.now g.id) _ _ c.global-item.result _ _ _ _ _ _ _ split c.in_ok-number.ensures c.in_ok-made.ensures c.has.ensures c.in_ok-add_global.ensures.slave c.loop-global.invariant.slave;
      monitor = global_kept (λ (g : GlobalTree). not (is_set c.args.owned.now g.id)) _ _ c.global-item.result _ _ _ _ _ _ _ split c.in_ok-number.ensures c.in_ok-made.ensures (ap not c.has.ensures) c.in_ok-add_global.ensures.monitor c.loop-global.invariant.monitor;
    }
