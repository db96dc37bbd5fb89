use Rattle.std.proofs.Common.{◌+◌, ◌∙◌, arith}
use Rattle.std.proofs.lemmas.Option.{slice_get_read}
use Rattle.block_memory.proofs.StackLemmas.{cell_read, stack-count}
use Rattle.block_memory.proofs.stack.Stack.read.Goals as goal

pub overflow_add-first : goal.overflow_add-first
overflow_add-first c = omega (arith, stack-count _ _ _ _ c.self.view_is, c.self.inside.starts.ok.0, c.self.inside.starts.small)

pub index-requires : goal.index-requires
index-requires c = omega (arith, stack-count _ _ _ _ c.self.view_is, c.self.inside.starts.ok.0)

pub overflow_add-index : goal.overflow_add-index
overflow_add-index c =
    let read = cell_read _ _ _ _ (c.args.first + c.args.var) c.args.cell _ c.self.view_is c.self.invariant c.requires.at c.index.ensures c.requires.cell in
    omega (arith, read.0, c.self.inside.cells.ok.0)

pub index-requires-2 : goal.index-requires-2
index-requires-2 c =
    let read = cell_read _ _ _ _ (c.args.first + c.args.var) c.args.cell _ c.self.view_is c.self.invariant c.requires.at c.index.ensures c.requires.cell in
    omega (arith, read.0, c.self.inside.cells.ok.0)

pub returns : goal.returns
returns c =
    let read = cell_read _ _ _ _ (c.args.first + c.args.var) c.args.cell _ c.self.view_is c.self.invariant c.requires.at c.index.ensures c.requires.cell in
    read.1 ∙ slice_get_read _ _ _ _ c.self.inside.cells.ok.0 (omega (arith, read.0, c.self.inside.cells.ok.0)) c.index-2.ensures
