use Rattle.lifted_runs_law.proofs.LockedCalls.{changes_nothing}
use Rattle.lifted_runs_law.proofs.laws.notes_change_nothing.Goals as goal

pub returns : goal.returns
returns c = changes_nothing
