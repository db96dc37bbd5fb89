use Rattle.std.proofs.Common.{◌∙◌, sym}
use Rattle.flow_picture.specs.Kept.{is_drawn}
use Rattle.flow_picture.proofs.SameLemmas.{same_if}
use Rattle.flow_picture.proofs.gathering.push_drawn.Goals as goal

pub returns-in_ok-push_arrow : goal.returns-in_ok-push_arrow
returns-in_ok-push_arrow c = same_if (is_drawn c.args.shown.now c.args.arrow) c.args.arrow _ _ (sym c.is_drawn.ensures ∙ c.if-is_drawn.true) c.in_ok-push_arrow.ensures
