use Rattle.handle_classes_law.proofs.SlavesPrograms.{slave_classes}
use Rattle.handle_flow_law.proofs.AskedAsking.{asks_stand}
use Rattle.handle_flow_law.proofs.asked.asked_handles_stand.Goals as goal

pub returns : goal.returns
returns c = asks_stand slave_classes
