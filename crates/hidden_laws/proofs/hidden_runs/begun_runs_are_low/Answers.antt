use Rattle.hidden_laws.proofs.HiddenRunsBegun.{begun_low}
use Rattle.hidden_laws.proofs.hidden_runs.begun_runs_are_low.Goals as goal

pub returns : goal.returns
returns c =
    begun_low c.monitors_begin_sound.ensures c.begun_monitors_are_well_formed.ensures c.begun_monitors_hosts_serve.ensures c.runs_are_low.ensures
