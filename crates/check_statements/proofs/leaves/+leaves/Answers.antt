-- The elements of an array, of which one was found as far as its leaves are wanted.
use Rattle.std.proofs.Common.{arith}
use Rattle.typed_tree.proofs.AlikeLists.{repeated_alike}
use Rattle.check_statements.proofs.leaves.+leaves.Goals as goal

pub add_elements-returns : goal.add_elements-returns
add_elements-returns t c = repeated_alike _ _ _ _ _ _ c.new-element.result.items _ c.in_ok-add_repeated.ensures c.in_ok-add_element.ensures (grind arith) (grind arith)
