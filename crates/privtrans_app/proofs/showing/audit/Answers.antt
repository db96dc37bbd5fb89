use Rattle.std.proofs.Common.{ℕ, List, [], ◌∷◌, inr, subst}
use Rattle.stages.specs.Climb.{alone, flows}
use Rattle.stages.specs.Seen.{IsStop}
use Rattle.auditing.specs.Audits.{IsAudit}
use Rattle.privtrans_app.specs.Gives.{audited, program_in}
use Rattle.privtrans_app.proofs.ShowingLemmas.{refused_shows}
use Rattle.privtrans_app.proofs.showing.audit.Goals as goal

pub returns-in-Ok : goal.returns-in-Ok
returns-in-Ok g c = inr (c.in-Ok.lines.items, subst (λ (text : List ℕ). IsAudit (alone text) c.in-Ok.lines.items) c.text_at.ensures c.in-Ok.ensures, c.verdicts.ensures)

pub returns-in-Err : goal.returns-in-Err
returns-in-Err g c =
    refused_shows (flows ∷ []) IsAudit audited (program_in c.args.texts.now) c.in-Err.stop c.refused.result
    (subst (λ (text : List ℕ). IsStop (flows ∷ []) (alone text) c.in-Err.stop) c.text_at.ensures c.in-Err.ensures) c.refused.ensures
