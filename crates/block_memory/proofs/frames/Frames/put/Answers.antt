use Rattle.std.proofs.Common.{◌∙◌, ◌++◌, List, ap, append-nil, arith, drop, length, length-append, length-drop, subst, take}
use Rattle.std.proofs.lemmas.List.{drop_all, length-take-le, take_all}
use Rattle.block_memory.specs.declared.cell.Cell.{Cell}
use Rattle.block_memory.specs.Block.{Block, with_cell}
use Rattle.block_memory.specs.Frames.{local_at, SetsLocal}
use Rattle.block_memory.proofs.FramesLemmas.{cells_put, SetsLocal-again, SetsLocal-same, SetsLocal_at}
use Rattle.block_memory.proofs.frames.Frames.put.Goals as goal

pub loop-i-init : goal.loop-i-init
loop-i-init c = SetsLocal-same c.args.self.now c.args.depth c.args.var

pub write-requires : goal.write-requires
write-requires c =
    let block = local_at c.args.self.now c.args.depth c.args.var in
    let now = ap (λ (b : Block). length b.cells) (SetsLocal_at _ _ c.args.depth c.args.var _ c.loop-i.invariant) in
    let long = length-append (take c.loop-i.i c.args.cells.now) (drop c.loop-i.i block.cells) in
    omega (arith, now, long, length-take-le c.loop-i.i c.args.cells.now (omega arith), length-drop c.loop-i.i block.cells)

pub loop-i-preserved : goal.loop-i-preserved
loop-i-preserved c =
    let block = local_at c.args.self.now c.args.depth c.args.var in
    let now = SetsLocal_at _ _ c.args.depth c.args.var _ c.loop-i.invariant in
    let put = cells_put c.args.cells.now block.cells c.loop-i.i _ c.loop-i-test.true c.requires c.index-cells-i.is in
    let value = ap (λ (b : Block). with_cell b c.loop-i.i c.index-cells-i.result) now ∙ ap (λ (cells : List Cell). record { types = block.types; cells = cells }) put in
    subst (SetsLocal c.args.self.now c.write.new.self c.args.depth c.args.var) value (SetsLocal-again _ _ _ c.args.depth c.args.var _ _ c.loop-i.invariant c.write.ensures)

pub returns : goal.returns
returns c =
    let block = local_at c.args.self.now c.args.depth c.args.var in
    let whole = take_all c.loop-i.i c.args.cells.now c.loop-i-test.false in
    let none = drop_all c.loop-i.i block.cells (omega arith) in
    let cells = ap (λ xs. xs ++ drop c.loop-i.i block.cells) whole ∙ ap (λ xs. c.args.cells.now ++ xs) none ∙ append-nil c.args.cells.now in
    subst (SetsLocal c.args.self.now c.loop-i.self c.args.depth c.args.var) (ap (λ (xs : List Cell). record { types = block.types; cells = xs }) cells) c.loop-i.invariant
