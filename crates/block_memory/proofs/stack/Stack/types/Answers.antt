use Rattle.std.proofs.Common.{◌∙◌, ◌+◌, ◌<◌, ◌≤◌, ap, arith, length, slice_range, sym}
use Rattle.block_memory.proofs.StackLemmas.{types_part, types_rest, stack-count}
use Rattle.block_memory.proofs.stack.Stack.types.Goals as goal

pub index-requires : goal.index-requires
index-requires c = omega (arith, stack-count _ _ _ _ c.self.view_is, c.self.inside.starts.ok.0)

pub overflow_add-at : goal.overflow_add-at
overflow_add-at c = omega (arith, stack-count _ _ _ _ c.self.view_is, c.self.inside.starts.ok.0, c.self.inside.starts.small)

pub slice_bounds-result-count : goal.slice_bounds-result-count
slice_bounds-result-count c =
    let more : c.args.at + 1 < length c.self.inside.starts.items = omega (arith, c.self.inside.starts.ok.0) in
    let part = types_part _ _ _ _ c.args.at _ _ c.self.view_is c.self.invariant more c.index.ensures c.index-then-at-len.ensures in
    omega (arith, part.rises, part.within, ap length c.deref.ensures.value)

pub slice_bounds-result-start : goal.slice_bounds-result-start
slice_bounds-result-start c =
    let more : c.args.at + 1 < length c.self.inside.starts.items = omega (arith, c.self.inside.starts.ok.0) in
    let part = types_part _ _ _ _ c.args.at _ _ c.self.view_is c.self.invariant more c.index.ensures c.index-then-at-len.ensures in
    omega (arith, part.rises, part.within, ap length c.deref.ensures.value)

pub slice_bounds-result-end : goal.slice_bounds-result-end
slice_bounds-result-end c =
    let more : c.args.at + 1 < length c.self.inside.starts.items = omega (arith, c.self.inside.starts.ok.0) in
    let part = types_part _ _ _ _ c.args.at _ _ c.self.view_is c.self.invariant more c.index.ensures c.index-then-at-len.ensures in
    omega (arith, part.rises, part.within, ap length c.deref.ensures.value)

pub slice_bounds-result-count-else-at-len : goal.slice_bounds-result-count-else-at-len
slice_bounds-result-count-else-at-len c =
    let last : length c.self.inside.starts.items ≤ c.args.at + 1 = omega (arith, c.self.inside.starts.ok.0) in
    let part = types_rest _ _ _ _ c.args.at _ c.self.view_is c.self.invariant c.requires last c.index.ensures in
    omega (arith, part.rises, part.within, ap length c.deref-else-at-len.ensures.value)

pub slice_bounds-result-start-else-at-len : goal.slice_bounds-result-start-else-at-len
slice_bounds-result-start-else-at-len c =
    let last : length c.self.inside.starts.items ≤ c.args.at + 1 = omega (arith, c.self.inside.starts.ok.0) in
    let part = types_rest _ _ _ _ c.args.at _ c.self.view_is c.self.invariant c.requires last c.index.ensures in
    omega (arith, part.rises, part.within, ap length c.deref-else-at-len.ensures.value)

pub returns-then-at-len : goal.returns-then-at-len
returns-then-at-len c =
    let more : c.args.at + 1 < length c.self.inside.starts.items = omega (arith, c.self.inside.starts.ok.0) in
    let part = types_part _ _ _ _ c.args.at _ _ c.self.view_is c.self.invariant more c.index.ensures c.index-then-at-len.ensures in
    ap (λ xs. slice_range xs c.index.result.now.types c.index-then-at-len.result.now.types) c.deref.ensures.value ∙ sym part.value

pub returns-else-at-len : goal.returns-else-at-len
returns-else-at-len c =
    let last : length c.self.inside.starts.items ≤ c.args.at + 1 = omega (arith, c.self.inside.starts.ok.0) in
    let part = types_rest _ _ _ _ c.args.at _ c.self.view_is c.self.invariant c.requires last c.index.ensures in
    ap (λ xs. slice_range xs c.index.result.now.types (length xs)) c.deref-else-at-len.ensures.value ∙ sym part.value
