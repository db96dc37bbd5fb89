use Rattle.std.proofs.Common.{◌≡◌, ◌∙◌, ℕ, List, [], ◌∷◌, ap, inr, subst}
use Rattle.stages.specs.Climb.{Stage, Texts, hosts, inputs}
use Rattle.stages.specs.Seen.{IsStop}
use Rattle.refusal_lines.specs.Ends.{ran}
use Rattle.original.specs.Original.{IsOriginal, original_texts}
use Rattle.original.specs.Seen.{view_ran}
use Rattle.privtrans_app.specs.Gives.{original_of, ran_alone}
use Rattle.privtrans_app.proofs.ShowingLemmas.{refused_shows}
use Rattle.privtrans_app.proofs.showing.orig.Goals as goal

abbrev of_original : List Stage
of_original = hosts ∷ inputs ∷ []

pub returns-in-Ok : goal.returns-in-Ok
returns-in-Ok g c =
    let same : original_texts c.text_at-program.result.now c.text_at-host.result.now c.text_at-input.result.now ≡ original_of c.args.texts.now =
    λ k. original_texts (c.text_at-program.ensures k) (c.text_at-host.ensures k) (c.text_at-input.ensures k) in
    let bytes : List ℕ = c.in-Ok.field-0.written.items in
    let none : c.new-in-Ok.result ≡ [] = c.new-in-Ok.ensures ∙ c.new.ensures.items in
    inr (
      view_ran c.in-Ok.field-0,
      subst (λ (t : Texts). IsOriginal c.args.words.now.turns t (view_ran c.in-Ok.field-0)) same c.in-Ok.ensures,
      c.ran.ensures ∙ ap (λ names. ran bytes names c.in-Ok.field-0.end) none,
    )

pub returns-in-Err : goal.returns-in-Err
returns-in-Err g c =
    let same : original_texts c.text_at-program.result.now c.text_at-host.result.now c.text_at-input.result.now ≡ original_of c.args.texts.now =
    λ k. original_texts (c.text_at-program.ensures k) (c.text_at-host.ensures k) (c.text_at-input.ensures k) in
    refused_shows of_original (IsOriginal c.args.words.now.turns) ran_alone (original_of c.args.texts.now) c.in-Err.stop c.refused.result
    (subst (λ (t : Texts). IsStop of_original t c.in-Err.stop) same c.in-Err.ensures) c.refused.ensures
