use Rattle.std.proofs.Common.{◌≡◌, [], Err, rules}
use Rattle.typed_tree.specs.TypedView.{view_typed}
use Rattle.stages.specs.declared.refusal.Stop.TheVariants.{Memory}
use Rattle.pair_texts.proofs.Parts.{input_stops}
use Rattle.pair_texts.proofs.beginning.with_input.Goals as goal

pub returns-in_err-fits : goal.returns-in_err-fits
returns-in_err-fits g c = λ t have input.
    let is : c.from_residual.result ≡ Err c.in_err-fits.field-0.0 = search rules in
    rw is (input_stops t c.args.passed c.in_err-fits.field-0.0 have (c.in_err-fits.ensures.stop [] t (view_typed c.args.passed.program) input))

pub returns-in_err-pair : goal.returns-in_err-pair
returns-in_err-pair g c = λ t have input.
    let is : c.from_residual-in_err-pair.result ≡ Err Memory = search rules in
    rw is (tt {0})
