use Rattle.std.proofs.Common.{◌∙◌, subst, sym}
use Rattle.std.specs.List.{Contains}
use Rattle.flow_picture.specs.declared.arrow.Arrow.{Arrow}
use Rattle.flow_picture.proofs.OrderLemmas.{arrow_same}
use Rattle.flow_picture.proofs.SameLemmas.{stands_at}
use Rattle.flow_picture.proofs.gathering.is_last_arrow.Goals as goal

pub returns-in-Some : goal.returns-in-Some
returns-in-Some c = λ h.
    subst (λ (x : Arrow). Contains c.args.arrows.now x) (arrow_same c.in-Some.last.now c.args.arrow (sym c.eq.ensures ∙ h)) (stands_at c.args.arrows.now _ c.in-Some.last.now c.in-Some.ensures.value)
