use Rattle.handle_classes_law.proofs.SlavesWorlds.{marked_worlds}
use Rattle.handle_classes_law.proofs.slaves.marked_worlds.Goals as goal

pub returns : goal.returns
returns c = marked_worlds
