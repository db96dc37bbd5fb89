use Rattle.std.proofs.Common.{◌≡◌, [], ◌∷◌, Err, refl, rules}
use Rattle.stages.specs.Climb.{inputs}
use Rattle.pair_texts.specs.Seen.{texts_with}
use Rattle.pair_texts.proofs.beginning.begin.Goals as goal

pub returns-in_err-passed : goal.returns-in_err-passed
returns-in_err-passed g c =
    let is : c.from_residual.result ≡ Err c.in_err-passed.field-0.0 = search rules in
    rw is (c.in_err-passed.ensures.stop (inputs ∷ []) (texts_with c.args.program.now c.args.beside) (record { program = refl; host = refl; policy = refl }))

pub returns : goal.returns
returns g c =
    let t = texts_with c.args.program.now c.args.beside in
    c.with_input.ensures t (c.in_ok-passed.ensures.passed t (record { program = refl; host = refl; policy = refl })) refl
