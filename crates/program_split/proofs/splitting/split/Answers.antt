use Rattle.std.proofs.Common.{◌≡◌, [], Err, refl, rules}
use Rattle.stages.specs.Climb.{alone}
use Rattle.program_split.proofs.splitting.split.Goals as goal

pub returns-in_err-judged : goal.returns-in_err-judged
returns-in_err-judged g c =
    let is : c.from_residual.result ≡ Err c.in_err-judged.field-0.0 = search rules in
    rw is (c.in_err-judged.ensures.stop [] (alone c.args.program.now) refl)

pub returns : goal.returns
returns g c = c.in_ok-halves.ensures (alone c.args.program.now) c.in_ok-judged.ensures.tree
