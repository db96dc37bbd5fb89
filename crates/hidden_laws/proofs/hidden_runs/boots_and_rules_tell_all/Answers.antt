use Rattle.hidden_laws.proofs.HiddenRunsViews.{boots_tell}
use Rattle.hidden_laws.proofs.hidden_runs.boots_and_rules_tell_all.Goals as goal

pub returns : goal.returns
returns c = boots_tell c.begun_runs_are_low.ensures
