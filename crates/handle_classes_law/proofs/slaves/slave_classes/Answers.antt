use Rattle.handle_classes_law.proofs.SlavesPrograms.{slave_classes}
use Rattle.handle_classes_law.proofs.slaves.slave_classes.Goals as goal

pub returns : goal.returns
returns c = slave_classes
