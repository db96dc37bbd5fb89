use Rattle.std.proofs.Common.{◌<◌, arith, length, sym}
use Rattle.std.proofs.lemmas.List.{take_all}
use Rattle.block_memory.proofs.StackLemmas.{blocks_kept, IsStack-kept, stack-count}
use Rattle.block_memory.proofs.stack.Stack.truncate.Goals as goal

pub invariant_of-self : goal.invariant_of-self
invariant_of-self c =
    let lt : c.args.count < length c.self.inside.starts.items = omega (arith, c.self.inside.starts.ok.0) in
    rw (c.truncate-then-count-len-2.ensures.items, c.truncate.ensures.items, c.truncate-then-count-len.ensures.items)
    (IsStack-kept _ _ _ c.args.count _ c.self.invariant lt c.index-start.ensures)

pub returns-then-count-len : goal.returns-then-count-len
returns-then-count-len c =
    let lt : c.args.count < length c.self.inside.starts.items = omega (arith, c.self.inside.starts.ok.0) in
    rw (c.truncate-then-count-len-2.ensures.items, c.truncate.ensures.items, c.truncate-then-count-len.ensures.items)
    (blocks_kept _ _ _ _ c.args.count _ c.self.view_is c.self.invariant lt c.index-start.ensures)

pub returns-else-count-len : goal.returns-else-count-len
returns-else-count-len c =
    sym (take_all c.args.count c.args.self.now (omega (arith, stack-count _ _ _ _ c.self.view_is, c.self.inside.starts.ok.0)))
