use Rattle.lowering.specs.Names.{scope_of}
use Rattle.lowering.proofs.leaves.part_at.Goals as goal

pub returns-in-Array : goal.returns-in-Array
returns-in-Array c = rw c.in-Array.is (c.element_at.ensures (scope_of c.args.names.now).structs)
