use Rattle.std.proofs.Common.{◌≡◌, [], Err, refl, rules}
use Rattle.stages.specs.Climb.{alone}
use Rattle.flow_picture.proofs.pictures.picture.Goals as goal

pub returns-in_err-t : goal.returns-in_err-t
returns-in_err-t g c =
    let is : c.from_residual.result ≡ Err c.in_err-t.field-0.0 = search rules in
    rw is (c.in_err-t.ensures.stop [] (alone c.args.program.now) refl)
