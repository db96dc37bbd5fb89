use Rattle.std.proofs.Common.{◌+◌, arith}
use Rattle.block_memory.proofs.StackLemmas.{cell_read, cell_written, stack-count}
use Rattle.block_memory.proofs.stack.Stack.write.Goals as goal

pub overflow_add-first : goal.overflow_add-first
overflow_add-first c = omega (arith, stack-count _ _ _ _ c.self.view_is, c.self.inside.starts.ok.0, c.self.inside.starts.small)

pub index-requires : goal.index-requires
index-requires c = omega (arith, stack-count _ _ _ _ c.self.view_is, c.self.inside.starts.ok.0)

pub overflow_add-start : goal.overflow_add-start
overflow_add-start c =
    let read = cell_read _ _ _ _ (c.args.first + c.args.var) c.args.cell _ c.self.view_is c.self.invariant c.requires.at c.index.ensures c.requires.cell in
    omega (arith, read.0, c.self.inside.cells.ok.0)

pub index_mut-requires : goal.index_mut-requires
index_mut-requires c =
    let read = cell_read _ _ _ _ (c.args.first + c.args.var) c.args.cell _ c.self.view_is c.self.invariant c.requires.at c.index.ensures c.requires.cell in
    omega (arith, read.0, c.self.inside.cells.ok.0)

pub returns : goal.returns
returns c = cell_written _ _ _ _ (c.args.first + c.args.var) c.args.cell c.args.value _ c.self.view_is c.self.invariant c.requires.at c.index.ensures c.requires.cell
