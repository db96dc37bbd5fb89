use Rattle.std.proofs.Common.{◌≡◌, [], ◌∷◌, Err, refl, rules}
use Rattle.stages.specs.Climb.{inputs}
use Rattle.stages.specs.declared.refusal.Stop.TheVariants.{Memory}
use Rattle.pair_texts.specs.Several.{shared_with, with_input}
use Rattle.pair_texts.proofs.SharedLemmas.{first_input, one_halts, stop_one}
use Rattle.pair_texts.proofs.sharing.share.Goals as goal

pub returns-in_err-passed-clause-stop : goal.returns-in_err-passed-clause-stop
returns-in_err-passed-clause-stop g c =
    let t = shared_with c.args.given in
    let first = first_input c.args.all.now c.requires in
    let is : c.from_residual.result ≡ Err c.in_err-passed.field-0.0 = search rules in
    rw is (stop_one t c.args.all.now 0 first.0 c.in_err-passed.field-0.0 first.1
    (c.in_err-passed.ensures.stop (inputs ∷ []) (with_input t first.0) (record { program = refl; host = refl; policy = refl })))

pub returns-in_err-all_fit-clause-stop : goal.returns-in_err-all_fit-clause-stop
returns-in_err-all_fit-clause-stop g c =
    let t = shared_with c.args.given in
    let is : c.from_residual-in_err-all_fit.result ≡ Err c.in_err-all_fit.field-0.0 = search rules in
    rw is (one_halts t c.args.all.now c.in_ok-passed.passed c.in_err-all_fit.field-0.0
    (λ input. c.in_ok-passed.ensures.passed (with_input t input) (record { program = refl; host = refl; policy = refl })) c.in_err-all_fit.ensures.stop)

pub returns-in_err-shared-clause-stop : goal.returns-in_err-shared-clause-stop
returns-in_err-shared-clause-stop g c =
    let is : c.from_residual-in_err-shared.result ≡ Err Memory = search rules in
    rw is (tt {0})

pub returns-clause-shared : goal.returns-clause-shared
returns-clause-shared g c =
    let t = shared_with c.args.given in
    c.in_ok-shared.ensures t (c.in_ok-passed.ensures.passed (with_input t []) (record { program = refl; host = refl; policy = refl }))
