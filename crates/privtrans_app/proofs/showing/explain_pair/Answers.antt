use Rattle.std.proofs.Common.{◌≡◌, ℕ, List, [], ◌∷◌, IfOk, refl, inr, subst}
use Rattle.stages.specs.Climb.{Stage, Texts, as_written, flows, hosts, rules}
use Rattle.pair_explaining.specs.PairExplains.{IsPairHeld}
use Rattle.pair_explaining.specs.PairNames.{Names}
use Rattle.pair_explaining.specs.RefusalBlocks.{AreBlocks}
use Rattle.privtrans_app.specs.EndingSeen.{shown_seen}
use Rattle.privtrans_app.specs.Gives.{Shows, accepted, files_in, three_names}
use Rattle.privtrans_app.proofs.ShowingLemmas.{explained_shows, may_explain}
use Rattle.privtrans_app.proofs.showing.explain_pair.Goals as goal

abbrev of_files : List Stage
of_files = hosts ∷ rules ∷ flows ∷ []

pub explained-requires : goal.explained-requires
explained-requires g c =
    let read : Texts = record { program = c.text_at.result.now; host = c.text_at-2.result.now; policy = c.text_at-3.result.now; input = []; way = as_written } in
    may_explain c.refusals_are_told.ensures of_files read c.in-Err.stop tt (c.in-Err.ensures [] read (record { program = refl; host = refl; policy = refl }))

pub returns-in-Ok : goal.returns-in-Ok
returns-in-Ok g c =
    let read : Texts = record { program = c.text_at.result.now; host = c.text_at-2.result.now; policy = c.text_at-3.result.now; input = []; way = as_written } in
    let same : read ≡ files_in c.args.texts.now = λ k. record { program = c.text_at.ensures k; host = c.text_at-2.ensures k; policy = c.text_at-3.ensures k; input = []; way = as_written } in
    inr (
      c.in-Ok.lines.items,
      subst (λ (n : List ℕ). IsPairHeld n (files_in c.args.texts.now) c.in-Ok.lines.items) c.as_bytes.ensures.value
          (subst (λ (t : Texts). IsPairHeld c.as_bytes.result.now t c.in-Ok.lines.items) same (c.in-Ok.ensures [] read (record { program = refl; host = refl; policy = refl }))),
      c.clean.ensures,
    )

pub returns-in-Err : goal.returns-in-Err
returns-in-Err g c =
    let read : Texts = record { program = c.text_at.result.now; host = c.text_at-2.result.now; policy = c.text_at-3.result.now; input = []; way = as_written } in
    let same : read ≡ files_in c.args.texts.now = λ k. record { program = c.text_at.ensures k; host = c.text_at-2.ensures k; policy = c.text_at-3.ensures k; input = []; way = as_written } in
    let named : Names = record { program = c.as_bytes.result.now; host = c.as_bytes-2.result.now; policy = c.as_bytes-3.result.now } in
    let same_names : named ≡ three_names c.args.words.now.program.now c.args.words.now.host.now c.args.words.now.policy.now =
    λ k. record { program = c.as_bytes.ensures.value k; host = c.as_bytes-2.ensures.value k; policy = c.as_bytes-3.ensures.value k } in
    let is = IsPairHeld c.args.words.now.program.now in
    subst (λ (n : Names). IfOk c.explained.result (λ s. Shows of_files (AreBlocks n (files_in c.args.texts.now)) is accepted (files_in c.args.texts.now) (shown_seen s))) same_names
    (subst (λ (t : Texts). IfOk c.explained.result (λ s. Shows of_files (AreBlocks named t) is accepted t (shown_seen s))) same
    (explained_shows of_files named is accepted read c.in-Err.stop c.explained.result (c.in-Err.ensures [] read (record { program = refl; host = refl; policy = refl })) c.explained.ensures))
