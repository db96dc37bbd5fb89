-- Texts of which only the first bytes were read, one more than each may have, come to what the whole texts come to.
use Rattle.std.proofs.Common.{ℕ, List, [], ◌∷◌}
use Rattle.stages.specs.Climb.{Texts, flows}
use Rattle.stages.specs.Commands.{AreCut}
use Rattle.stages.proofs.Commands.{whole_climb}
use Rattle.stages.proofs.Cuts.{tree_whole}
use Rattle.outlining.specs.Outlines.{IsOutline}
use Rattle.outlining.specs.Laws.{FirstBytesAreEnough}

outline_whole : (whole cut : Texts) (out : List ℕ) → AreCut whole cut → IsOutline cut out → IsOutline whole out
outline_whole whole cut out are is = record {
  tree = is.tree;
  typed = tree_whole whole.program cut.program is.tree are.program is.typed;
  accepted = is.accepted;
  is = is.is;
  outlined = is.outlined;
}

pub cut_whole : FirstBytesAreEnough
cut_whole = whole_climb (flows ∷ []) IsOutline outline_whole
