use Rattle.low_views_law.proofs.GuardedCalls.{refused_calls_are_denied}
use Rattle.low_views_law.proofs.guarded.refused_calls_are_denied.Goals as goal

pub returns : goal.returns
returns c = refused_calls_are_denied
