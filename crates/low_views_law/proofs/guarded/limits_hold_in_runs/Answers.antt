use Rattle.low_views_law.proofs.GuardedCalls.{limits_hold_in_runs}
use Rattle.low_views_law.proofs.guarded.limits_hold_in_runs.Goals as goal

pub returns : goal.returns
returns c = limits_hold_in_runs
