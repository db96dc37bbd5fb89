use Rattle.hidden_laws.proofs.HiddenRunsLow.{first_low}
use Rattle.hidden_laws.proofs.hidden_runs.first_parts_are_low.Goals as goal

pub returns : goal.returns
returns c = first_low c.frames_keep_counts.ensures c.streams_are_low.ensures c.runs_serve_streams.ensures
