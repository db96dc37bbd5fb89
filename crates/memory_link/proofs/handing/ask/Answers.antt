use Rattle.std.proofs.Common.{arith}
use Rattle.memory_link.proofs.Steps.{all_asked, none_asked, one_asked}
use Rattle.memory_link.proofs.handing.ask.Goals as goal

pub loop-asked-init : goal.loop-asked-init
loop-asked-init g c = none_asked _

pub loop-asked-preserved : goal.loop-asked-preserved
loop-asked-preserved g c = one_asked _ _ _ _ _ c.loop-asked.invariant c.next-who.ensures.gives c.next-who.ensures.rest

pub returns : goal.returns
returns g c = all_asked _ _ _ _ (grind arith) c.loop-asked.invariant
