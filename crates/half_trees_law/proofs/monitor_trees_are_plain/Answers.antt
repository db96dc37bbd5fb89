use Rattle.half_trees_law.proofs.Programs.{monitors_plain}
use Rattle.half_trees_law.proofs.monitor_trees_are_plain.Goals as goal

pub returns : goal.returns
returns c = monitors_plain
