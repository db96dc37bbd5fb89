use Rattle.lowering.proofs.WaysLemmas.{entered}
use Rattle.lowering.proofs.leaves.Walk.enter.Goals as goal

pub returns : goal.returns
returns c = entered _ _ _ c.args.whole c.requires.here c.requires.parts c.in_ok-push.ensures.items c.part_at-self.ensures
