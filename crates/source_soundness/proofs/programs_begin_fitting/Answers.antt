use Rattle.source_soundness.proofs.Programs.{programs_begin}
use Rattle.source_soundness.proofs.programs_begin_fitting.Goals as goal

pub returns : goal.returns
returns c = programs_begin
