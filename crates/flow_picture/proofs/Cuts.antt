-- Texts of which only the first bytes were read, one more than each may have, come to what the whole texts come to.
use Rattle.std.proofs.Common.{ℕ, List, [], subst}
use Rattle.front_end.specs.Reading.{HasTypedTree}
use Rattle.typed_tree.specs.TypedTree.{TypedTree}
use Rattle.stages.specs.Climb.{Texts}
use Rattle.stages.specs.Commands.{AreCut}
use Rattle.stages.proofs.Commands.{whole_climb}
use Rattle.stages.proofs.Cuts.{short_cut}
use Rattle.flow_picture.specs.Laws.{FirstBytesAreEnough}
use Rattle.flow_picture.specs.Pictures.{AreJudged, IsPicture, IsPictured, Picture}

picture_whole : (whole cut : Texts) (p : Picture) → AreCut whole cut → IsPictured cut p → IsPictured whole p
picture_whole whole cut p are is =
    subst (λ (xs : List ℕ). (tree : TypedTree) × HasTypedTree xs tree × AreJudged tree p.faults × IsPicture xs tree p.faults p.picture)
    (short_cut whole.program cut.program are.program is.1.reads.lexed.short) is

pub enough : FirstBytesAreEnough
enough = whole_climb [] IsPictured picture_whole
