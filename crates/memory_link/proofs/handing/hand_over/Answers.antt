use Rattle.memory_link.proofs.Steps.{all_said, goes_on, hands_over}
use Rattle.memory_link.proofs.handing.hand_over.Goals as goal

pub loop-step-init : goal.loop-step-init
loop-step-init g c = c.in_ok-run_ahead.ensures

pub returns-then-not-is_live : goal.returns-then-not-is_live
returns-then-not-is_live g c = all_said _ _ _ _ _ _ c.loop-step.invariant c.is_live.ensures c.if-not-is_live.true

pub returns-then-not-moves : goal.returns-then-not-moves
returns-then-not-moves g c = hands_over _ _ _ _ _ _ _ _ _ _ c.loop-step.invariant c.next-who.ensures.gives c.next-who.ensures.rest c.moves.ensures c.if-not-moves.true c.pop.ensures

pub loop-step-preserved : goal.loop-step-preserved
loop-step-preserved g c = goes_on _ _ _ _ _ _ _ _ _ c.loop-step.invariant c.next-who.ensures.gives c.next-who.ensures.rest c.moves.ensures c.if-not-moves.false c.in_ok-step.ensures
