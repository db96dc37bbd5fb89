use Rattle.hidden_laws.proofs.HiddenRunsTables.{rows_hidden}
use Rattle.hidden_laws.proofs.hidden_runs.privileged_rows_are_hidden.Goals as goal

pub returns : goal.returns
returns c = rows_hidden c.boots_and_rules_tell_all.ensures
