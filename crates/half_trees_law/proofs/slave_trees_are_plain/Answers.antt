use Rattle.half_trees_law.proofs.Programs.{slaves_plain}
use Rattle.half_trees_law.proofs.slave_trees_are_plain.Goals as goal

pub returns : goal.returns
returns c = slaves_plain
