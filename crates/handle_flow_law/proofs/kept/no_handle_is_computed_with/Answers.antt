use Rattle.handle_classes_law.proofs.SlavesPrograms.{slave_classes}
use Rattle.handle_flow_law.proofs.KeptRuns.{never_met}
use Rattle.handle_flow_law.proofs.kept.no_handle_is_computed_with.Goals as goal

pub returns : goal.returns
returns c = never_met slave_classes
