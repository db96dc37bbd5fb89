use Rattle.low_views_law.proofs.GuardedCalls.{guarded_calls_are_allowed}
use Rattle.low_views_law.proofs.guarded.guarded_calls_are_allowed.Goals as goal

pub returns : goal.returns
returns c = guarded_calls_are_allowed
