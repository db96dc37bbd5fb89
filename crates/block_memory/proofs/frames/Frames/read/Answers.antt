use Rattle.std.proofs.Common.{◌∙◌, ◌<◌, ap, arith, length, slice_get, subst}
use Rattle.block_memory.specs.Block.{Block}
use Rattle.block_memory.proofs.FramesLemmas.{frame_in, local_in}
use Rattle.block_memory.proofs.frames.Frames.read.Goals as goal

pub index-first-requires : goal.index-first-requires
index-first-requires c = omega (arith, frame_in _ _ _ c.args.depth c.args.var c.args.cell c.self.view_is c.requires, c.self.inside.starts.ok.0)

pub read-requires-clause-at : goal.read-requires-clause-at
read-requires-clause-at c =
    let place = local_in _ _ _ c.args.depth c.args.var c.args.cell _ c.self.view_is c.self.invariant c.requires c.index-first.ensures in
    place.0

pub read-requires-clause-cell : goal.read-requires-clause-cell
read-requires-clause-cell c =
    let place = local_in _ _ _ c.args.depth c.args.var c.args.cell _ c.self.view_is c.self.invariant c.requires c.index-first.ensures in
    subst (λ (b : Block). c.args.cell < length b.cells) place.1 c.requires

pub returns : goal.returns
returns c =
    let place = local_in _ _ _ c.args.depth c.args.var c.args.cell _ c.self.view_is c.self.invariant c.requires c.index-first.ensures in
    ap (λ (b : Block). slice_get b.cells c.args.cell) place.1 ∙ c.read.ensures
