use Rattle.hidden_laws.proofs.HiddenRunsLow.{runs_low}
use Rattle.hidden_laws.proofs.hidden_runs.runs_are_low.Goals as goal

pub returns : goal.returns
returns c = runs_low c.frames_keep_counts.ensures c.streams_are_low.ensures c.runs_serve_streams.ensures
