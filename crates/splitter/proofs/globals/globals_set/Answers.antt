use Rattle.pt_base.specs.declared.ids.GlobalId.{GlobalId}
use Rattle.pt_base.proofs.Places.{drop_step}
use Rattle.splitter.proofs.WalkLemmas.{number_on}
use Rattle.splitter.proofs.globals.globals_set.Goals as goal

pub loop-global-preserved : goal.loop-global-preserved
loop-global-preserved c = number_on (λ (g : GlobalId). g.0) _ _ _ _ _ _ (drop_step c.args.globals.now c.loop-global.global-index (record { 0 = 0 }) c.loop-global-test.true) c.add.ensures c.loop-global.invariant
