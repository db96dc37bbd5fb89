use Rattle.source_soundness.proofs.CallSizes.{programs_begin_sized}
use Rattle.source_soundness.proofs.programs_begin_sized.Goals as goal

pub returns : goal.returns
returns c = programs_begin_sized
