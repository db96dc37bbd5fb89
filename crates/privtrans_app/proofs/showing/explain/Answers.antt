use Rattle.std.proofs.Common.{ℕ, List, [], ◌∷◌, IfOk, inr, subst}
use Rattle.stages.specs.Climb.{Texts, alone, flows}
use Rattle.explaining.specs.Explains.{IsHeld}
use Rattle.pair_explaining.specs.PairNames.{Names}
use Rattle.pair_explaining.specs.RefusalBlocks.{AreBlocks}
use Rattle.privtrans_app.specs.EndingSeen.{shown_seen}
use Rattle.privtrans_app.specs.Gives.{Shows, accepted, one_name, program_in}
use Rattle.privtrans_app.proofs.ShowingLemmas.{explained_shows, may_explain}
use Rattle.privtrans_app.proofs.showing.explain.Goals as goal

pub returns-in-Ok : goal.returns-in-Ok
returns-in-Ok g c =
    inr (
      c.in-Ok.lines.items,
      subst (λ (n : List ℕ). IsHeld n (program_in c.args.texts.now) c.in-Ok.lines.items) c.as_bytes.ensures.value
          (subst (λ (text : List ℕ). IsHeld c.as_bytes.result.now (alone text) c.in-Ok.lines.items) c.text_at-program.ensures c.in-Ok.ensures),
      c.clean.ensures,
    )

pub explained-requires : goal.explained-requires
explained-requires g c = may_explain c.refusals_are_told.ensures (flows ∷ []) (alone c.text_at-program.result.now) c.in-Err.stop tt c.in-Err.ensures

pub returns-in-Err : goal.returns-in-Err
returns-in-Err g c =
    let names : Names = record { program = c.as_bytes-in-Err.result.now; host = []; policy = [] } in
    let read : Texts = alone c.text_at-program.result.now in
    subst (λ (n : List ℕ). IfOk c.explained.result (λ s. Shows (flows ∷ []) (AreBlocks (one_name n) (program_in c.args.texts.now)) (IsHeld c.args.name.now) accepted (program_in c.args.texts.now) (shown_seen s)))
    c.as_bytes-in-Err.ensures.value
    (subst (λ (text : List ℕ). IfOk c.explained.result (λ s. Shows (flows ∷ []) (AreBlocks names (alone text)) (IsHeld c.args.name.now) accepted (alone text) (shown_seen s))) c.text_at-program.ensures
    (explained_shows (flows ∷ []) names (IsHeld c.args.name.now) accepted read c.in-Err.stop c.explained.result c.in-Err.ensures c.explained.ensures))
