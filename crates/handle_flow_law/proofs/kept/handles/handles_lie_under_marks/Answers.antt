use Rattle.handle_classes_law.proofs.SlavesPrograms.{slave_classes}
use Rattle.handle_flow_law.proofs.KeptLying.{handles_lie}
use Rattle.handle_flow_law.proofs.kept.handles.handles_lie_under_marks.Goals as goal

pub returns : goal.returns
returns c = handles_lie slave_classes
