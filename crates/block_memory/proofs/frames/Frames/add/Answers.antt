use Rattle.std.proofs.Common.{◌∙◌, ◌++◌, ◌-◌, ◌≤◌, ap, arith, length, replicate, suc}
use Rattle.pt_base.proofs.Results.{on_err_of}
use Rattle.block_memory.proofs.FramesLemmas.{AreStarts-added, frames-count, OnOk-added, padded, prefixed, SameBelow-of_SetsFrame, SetsFrame-added}
use Rattle.block_memory.proofs.frames.Frames.add.Goals as goal

pub invariant_of-self-2 : goal.invariant_of-self-2
invariant_of-self-2 c =
    let le : length c.self.inside.starts.items ≤ c.args.depth = omega (arith, frames-count _ _ _ c.self.view_is) in
    let new = padded _ _ c.args.depth _ _ c.in_ok-resize.ensures.items c.self.inside.starts.ok.0 le in
    let more = prefixed _ _ _ _ c.extend.ensures.ok c.extend.ensures.err in
    AreStarts-added _ _ _ _ _ (suc (c.args.depth - length c.self.inside.starts.items)) c.self.invariant (new ∙ ap (λ n. c.self.inside.starts.items ++ replicate (suc (c.args.depth - length c.self.inside.starts.items)) n) c.len-end.ensures.len) more

pub returns-clause-ok : goal.returns-clause-ok
returns-clause-ok c =
    let le : length c.self.inside.starts.items ≤ c.args.depth = omega (arith, frames-count _ _ _ c.self.view_is) in
    let new = padded _ _ c.args.depth _ _ c.in_ok-resize.ensures.items c.self.inside.starts.ok.0 le in
    OnOk-added c.extend.result _ _ _ _ _ _ c.args.depth c.self.view_is c.self.invariant le (new ∙ ap (λ n. c.self.inside.starts.items ++ replicate (suc (c.args.depth - length c.self.inside.starts.items)) n) c.len-end.ensures.len) c.extend.ensures.ok

pub returns-clause-err : goal.returns-clause-err
returns-clause-err c =
    let le : length c.self.inside.starts.items ≤ c.args.depth = omega (arith, frames-count _ _ _ c.self.view_is) in
    let new = padded _ _ c.args.depth _ _ c.in_ok-resize.ensures.items c.self.inside.starts.ok.0 le in
    let more = prefixed _ _ _ _ c.extend.ensures.ok c.extend.ensures.err in
    on_err_of _ (SameBelow-of_SetsFrame _ _ c.args.depth _ (SetsFrame-added _ _ _ _ _ _ c.args.depth c.self.view_is c.self.invariant le (new ∙ ap (λ n. c.self.inside.starts.items ++ replicate (suc (c.args.depth - length c.self.inside.starts.items)) n) c.len-end.ensures.len) more))
