use Rattle.std.proofs.Common.{◌<◌, length, rules}
use Rattle.stages.specs.GivenHosts.{most}
use Rattle.stages.proofs.RungLemmas.{input_stops}
use Rattle.stages.proofs.rungs.fits.Goals as goal

pub returns-then-input-gt-INPUT_LIMIT-clause-stop : goal.returns-then-input-gt-INPUT_LIMIT-clause-stop
returns-then-input-gt-INPUT_LIMIT-clause-stop c = λ ss t tree same.
    let long : most < length c.args.input.now = search rules in
    input_stops ss t tree c.args.input.now long same
