use Rattle.std.proofs.Common.{◌∙◌, ◌+◌, ◌<◌, ap, arith, length, set, subst, sym}
use Rattle.block_memory.specs.Block.{Block, with_cell}
use Rattle.block_memory.proofs.FramesLemmas.{frame_in, local_in, local_written}
use Rattle.block_memory.proofs.frames.Frames.write.Goals as goal

pub index-first-requires : goal.index-first-requires
index-first-requires c = omega (arith, frame_in _ _ _ c.args.depth c.args.var c.args.cell c.self.view_is c.requires, c.self.inside.starts.ok.0)

pub write-requires-clause-at : goal.write-requires-clause-at
write-requires-clause-at c =
    let place = local_in _ _ _ c.args.depth c.args.var c.args.cell _ c.self.view_is c.self.invariant c.requires c.index-first.ensures in
    place.0

pub write-requires-clause-cell : goal.write-requires-clause-cell
write-requires-clause-cell c =
    let place = local_in _ _ _ c.args.depth c.args.var c.args.cell _ c.self.view_is c.self.invariant c.requires c.index-first.ensures in
    subst (λ (b : Block). c.args.cell < length b.cells) place.1 c.requires

pub returns : goal.returns
returns c =
    let place = local_in _ _ _ c.args.depth c.args.var c.args.cell _ c.self.view_is c.self.invariant c.requires c.index-first.ensures in
    local_written _ _ _ _ c.args.depth c.args.var c.args.cell _ _ c.self.view_is c.self.invariant c.requires c.index-first.ensures
    (c.write.ensures ∙ ap (λ (b : Block). set c.self.inside.blocks (c.index-first.result.now + c.args.var) (with_cell b c.args.cell c.args.value)) (sym place.1))
