use Rattle.pair_laws.proofs.AdmittedCallsJudged.{honest_calls_are_judged}
use Rattle.pair_laws.proofs.admitted_calls.honest_calls_are_judged.Goals as goal

pub returns : goal.returns
returns c = honest_calls_are_judged
