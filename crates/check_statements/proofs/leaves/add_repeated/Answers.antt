-- Adding elements until enough leaves are there.
use Rattle.std.proofs.Common.{arith}
use Rattle.typed_tree.proofs.AlikeLists.{nothing_repeated, full_repeated, all_repeated}
use Rattle.check_statements.proofs.leaves.add_repeated.Goals as goal

pub returns-then-is_empty : goal.returns-then-is_empty
returns-then-is_empty c = nothing_repeated c.args.wanted c.args.count c.args.leaves.now.items c.args.element.now (grind arith)

pub returns-then-len-wanted : goal.returns-then-len-wanted
returns-then-len-wanted c = full_repeated _ _ _ _ (grind arith) c.loop-i.invariant

pub returns : goal.returns
returns c = all_repeated c.args.wanted c.loop-i.leaves.items c.args.element.now _ c.args.count c.loop-i._i (grind arith) c.loop-i.invariant
