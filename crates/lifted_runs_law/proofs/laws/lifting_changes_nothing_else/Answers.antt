use Rattle.lifted_runs_law.proofs.Whole.{nothing_else}
use Rattle.lifted_runs_law.proofs.laws.lifting_changes_nothing_else.Goals as goal

pub returns : goal.returns
returns c = nothing_else
