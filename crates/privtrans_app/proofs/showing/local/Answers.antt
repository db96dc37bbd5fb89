use Rattle.std.proofs.Common.{◌≡◌, ◌∙◌, ℕ, List, Result, MatchResult, ap, subst}
use Rattle.stages.specs.Climb.{Texts, of_pair}
use Rattle.stages.specs.Seen.{IsStop}
use Rattle.stages.specs.declared.refusal.Stop.{Stop}
use Rattle.pair_texts.specs.Seen.{texts_with}
use Rattle.pair_running.specs.LocalPairLocal.{IsPairRun}
use Rattle.pair_running.specs.LocalPairOutcomeSeen.{view_ran}
use Rattle.pair_running.specs.declared.local_pair.ran.Ran.{Ran}
use Rattle.privtrans_app.specs.Gives.{pair_of}
use Rattle.privtrans_app.proofs.ShowingLemmas.{pair_shows}
use Rattle.privtrans_app.proofs.showing.local.Goals as goal

abbrev CameTo : Texts → ℕ → Result Ran Stop → Type 0
CameTo t turns r = MatchResult r (λ x. IsPairRun turns t (view_ran x)) (IsStop of_pair t)

pub returns-clause-gives : goal.returns-clause-gives
returns-clause-gives g c =
    let same : texts_with c.text_at-program.result.now c.texts_beside-beside.result ≡ pair_of c.args.texts.now =
    ap (λ (p : List ℕ). texts_with p c.texts_beside-beside.result) c.text_at-program.ensures ∙ c.texts_beside-beside.ensures.texts in
    let comes : CameTo (pair_of c.args.texts.now) c.args.words.now.turns c.run-answer.result =
    subst (λ (n : ℕ). CameTo (pair_of c.args.texts.now) n c.run-answer.result) c.texts_beside-beside.ensures.turns
    (subst (λ (t : Texts). CameTo t c.texts_beside-beside.result.turns c.run-answer.result) same c.run-answer.ensures.outcome) in
    pair_shows (pair_of c.args.texts.now) c.args.words.now.turns c.run-answer.result c.pair_shown.result comes c.pair_shown.ensures
