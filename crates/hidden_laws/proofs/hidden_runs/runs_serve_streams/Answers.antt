use Rattle.hidden_laws.proofs.HiddenRunsStreams.{runs_serve}
use Rattle.hidden_laws.proofs.hidden_runs.runs_serve_streams.Goals as goal

pub returns : goal.returns
returns c = runs_serve
