use Rattle.std.proofs.Common.{List, subst}
use Rattle.std.specs.List.{Contains}
use Rattle.flow_picture.specs.declared.arrow.Arrow.{Arrow}
use Rattle.flow_picture.specs.Kept.{is_drawn}
use Rattle.flow_picture.proofs.SameLemmas.{same_kept}
use Rattle.flow_picture.proofs.gathering.add_arrow.Goals as goal

pub returns-then-is_last_arrow : goal.returns-then-is_last_arrow
returns-then-is_last_arrow c =
    same_kept c.args.arrows.now.items (is_drawn c.args.shown.now c.args.arrow) c.args.arrow
    (subst (λ (xs : List Arrow). Contains xs c.args.arrow) c.as_slice.ensures.value (c.is_last_arrow.ensures c.if-is_last_arrow.true))
