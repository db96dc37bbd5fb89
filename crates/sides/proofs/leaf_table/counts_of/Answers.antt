use Rattle.std.proofs.Common.{[]}
use Rattle.sides.proofs.LeafLemmas.{counts_are}
use Rattle.sides.proofs.leaf_table.counts_of.Goals as goal

pub loop-info-init : goal.loop-info-init
loop-info-init c = rw c.new-counts.ensures.items (counts_are [] c.args.structs.now)
