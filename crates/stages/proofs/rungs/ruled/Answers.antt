use Rattle.std.proofs.Common.{◌≡◌, Err, rules}
use Rattle.typed_tree.specs.TypedView.{view_typed}
use Rattle.stages.specs.Stops.{policy_stop}
use Rattle.stages.proofs.RungLemmas.{policy_stops}
use Rattle.stages.proofs.rungs.ruled.Goals as goal

pub returns-in_err-read_policy-clause-stop : goal.returns-in_err-read_policy-clause-stop
returns-in_err-read_policy-clause-stop c = λ ss t same.
    let is : c.from_residual.result ≡ Err (policy_stop c.in_err-read_policy.field-0.0) = search rules in
    rw is (policy_stops ss t (view_typed c.args.program.now) c.args.policy.now c.in_err-read_policy.field-0.0 c.in_err-read_policy.ensures.rules same)
