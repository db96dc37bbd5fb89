use Rattle.std.proofs.Common.{◌<◌, arith, length, sym}
use Rattle.std.proofs.lemmas.List.{take_all}
use Rattle.block_memory.proofs.FramesLemmas.{AreStarts-kept, frames-count, frames_kept}
use Rattle.block_memory.proofs.frames.Frames.leave.Goals as goal

pub invariant_of-self : goal.invariant_of-self
invariant_of-self c =
    let lt : c.args.depth < length c.self.inside.starts.items = omega (arith, c.self.inside.starts.ok.0) in
    rw (c.truncate-then-depth-len.ensures.items, c.truncate.ensures) (AreStarts-kept _ _ c.args.depth _ c.self.invariant lt c.index.ensures)

pub returns-then-depth-len : goal.returns-then-depth-len
returns-then-depth-len c =
    let lt : c.args.depth < length c.self.inside.starts.items = omega (arith, c.self.inside.starts.ok.0) in
    rw (c.truncate-then-depth-len.ensures.items, c.truncate.ensures) (frames_kept _ _ _ c.args.depth _ c.self.view_is c.self.invariant lt c.index.ensures)

pub returns-else-depth-len : goal.returns-else-depth-len
returns-else-depth-len c =
    sym (take_all c.args.depth c.args.self.now (omega (arith, frames-count _ _ _ c.self.view_is, c.self.inside.starts.ok.0)))
