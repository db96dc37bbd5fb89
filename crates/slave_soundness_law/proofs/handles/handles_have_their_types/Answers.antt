use Rattle.slave_soundness_law.proofs.Typed.{handles_have_their_types}
use Rattle.slave_soundness_law.proofs.handles.handles_have_their_types.Goals as goal

pub returns : goal.returns
returns c = handles_have_their_types
