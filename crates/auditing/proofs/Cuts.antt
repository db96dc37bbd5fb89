-- Texts of which only the first bytes were read, one more than each may have, come to what the whole texts come to.
use Rattle.std.proofs.Common.{ℕ, List, [], ◌∷◌}
use Rattle.stages.specs.Climb.{Texts, flows}
use Rattle.stages.specs.Commands.{AreCut}
use Rattle.stages.proofs.Commands.{whole_climb}
use Rattle.stages.proofs.Cuts.{tree_whole}
use Rattle.auditing.specs.Audits.{IsAudit}
use Rattle.auditing.specs.Laws.{FirstBytesAreEnough}

audit_whole : (whole cut : Texts) (out : List ℕ) → AreCut whole cut → IsAudit cut out → IsAudit whole out
audit_whole whole cut out are is = record {
  tree = is.tree;
  typed = tree_whole whole.program cut.program is.tree are.program is.typed;
  accepted = is.accepted;
  is = is.is;
  audit = is.audit;
}

pub cut_whole : FirstBytesAreEnough
cut_whole = whole_climb (flows ∷ []) IsAudit audit_whole
