-- Texts of which only the first bytes were read, one more than a text may have, come to what the whole texts
-- come to.
use Rattle.std.proofs.Common.{[], ◌∷◌}
use Rattle.stages.specs.Climb.{Texts, flows}
use Rattle.stages.specs.Commands.{AreCut}
use Rattle.stages.proofs.Commands.{whole_climb}
use Rattle.stages.proofs.Cuts.{tree_whole}
use Rattle.program_split.specs.Split.{HalfTexts, IsSplit}
use Rattle.program_split.specs.Laws.{FirstBytesAreEnough}

pub split_whole : (whole cut : Texts) (h : HalfTexts) → AreCut whole cut → IsSplit cut h → IsSplit whole h
split_whole whole cut h is comes = (comes.0, tree_whole whole.program cut.program comes.0 is.program comes.1, comes.2)

pub cut_whole : FirstBytesAreEnough
cut_whole = whole_climb (flows ∷ []) IsSplit split_whole
