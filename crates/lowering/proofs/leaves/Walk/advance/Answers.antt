use Rattle.std.proofs.Common.{refl, sym, ◌∙◌}
use Rattle.lowering.proofs.WaysLemmas.{advanced, left_object}
use Rattle.lowering.proofs.leaves.Walk.advance.Goals as goal

pub returns-in_ok-push-in-Some-part_at : goal.returns-in_ok-push-in-Some-part_at
returns-in_ok-push-in-Some-part_at c = advanced _ _ _ _ c.in-Some.level _ c.in-Some-part_at.object c.requires.here c.in-Some.ensures.items c.in_ok-at.ensures (sym c.part_at.ensures ∙ c.in-Some-part_at.is) c.in_ok-push-in-Some-part_at.ensures.items refl

pub returns-in-None : goal.returns-in-None
returns-in-None c = left_object _ _ _ _ c.in-Some.level _ c.requires.here c.in-Some.ensures.items c.in_ok-at.ensures (sym c.part_at.ensures ∙ c.in-None.is) refl c.requires.here
