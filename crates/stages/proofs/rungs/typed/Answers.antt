use Rattle.std.proofs.Common.{◌≡◌, Err, rules}
use Rattle.stages.specs.Stops.{front_stop}
use Rattle.stages.proofs.RungLemmas.{front_stops}
use Rattle.stages.proofs.rungs.typed.Goals as goal

pub returns-in_err-read_program-clause-stop : goal.returns-in_err-read_program-clause-stop
returns-in_err-read_program-clause-stop c = λ ss t same.
    let is : c.from_residual.result ≡ Err (front_stop c.in_err-read_program.field-0.0) = search rules in
    rw is (front_stops ss t c.args.program.now c.in_err-read_program.field-0.0 c.in_err-read_program.ensures.reading same)
