use Rattle.std.proofs.Common.{length}
use Rattle.pt_tree.specs.ProgramTree.{view_item}
use Rattle.half_trees.specs.Declarations.{struct_item}
use Rattle.split_text.proofs.Printing.{printed_next}
use Rattle.split_text.proofs.print.print_structs.Goals as goal

pub loop-n-preserved : goal.loop-n-preserved
loop-n-preserved c =
    let structs = c.args.half.now.structs.now in
    printed_next (struct_item structs) c.loop-n.n (length structs) c.loop-n.sheet c.print_item.new.self _ (view_item c.in_ok-item.item) c.loop-n-test.true c.in_ok-item.ensures c.in_ok-print_item.ensures c.loop-n.invariant
