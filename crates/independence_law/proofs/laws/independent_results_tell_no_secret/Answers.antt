use Rattle.independence_law.proofs.Law.{independent_results}
use Rattle.independence_law.proofs.laws.independent_results_tell_no_secret.Goals as goal

pub returns : goal.returns
returns c = independent_results
