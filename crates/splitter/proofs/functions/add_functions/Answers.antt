use Rattle.pt_base.specs.declared.ids.FnId.{FnId}
use Rattle.pt_base.proofs.Places.{drop_step}
use Rattle.splitter.proofs.WalkLemmas.{number_on}
use Rattle.splitter.proofs.functions.add_functions.Goals as goal

pub loop-f-preserved : goal.loop-f-preserved
loop-f-preserved c = number_on (λ (f : FnId). f.0) _ _ _ _ _ _ (drop_step c.args.functions.now c.loop-f.f-index (record { 0 = 0 }) c.loop-f-test.true) c.add.ensures c.loop-f.invariant
