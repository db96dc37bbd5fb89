use Rattle.std.proofs.Common.{◌≡◌, ◌∙◌, ap, arith, List}
use Rattle.pt_base.proofs.Results.{on_err_of}
use Rattle.block_memory.specs.Blocks.{Blocks, with_frame}
use Rattle.machine_memory.specs.Layouts.{FrameLayout}
use Rattle.machine_memory.specs.Frames.{layout_in}
use Rattle.machine_memory.specs.Memory.{blocks_of, layout_at, live_count}
use Rattle.machine_memory.proofs.LocalsLemmas.{live_same, on_err-then, on_ok-then, Stands-same, without_frames-free}
use Rattle.machine_memory.proofs.memory.MachineMemory.enter.Goals as goal

pub returns-in_err-reach-clause-err : goal.returns-in_err-reach-clause-err
returns-in_err-reach-clause-err c =
    on_err_of _ (c.reach.ensures.blocks ∙ c.leave.ensures.blocks ∙ without_frames-free (blocks_of c.args.self.now) c.args.depth c.requires)

pub returns-clause-ok : goal.returns-clause-ok
returns-clause-ok c =
    let same : blocks_of c.reach.new.self ≡ blocks_of c.args.self.now =
    c.reach.ensures.blocks ∙ c.leave.ensures.blocks ∙ without_frames-free (blocks_of c.args.self.now) c.args.depth c.requires
    in
    on_ok-then c.begin.result c.begin.ensures.ok (λ begun.
    begun
    ∙ ap (λ (bs : Blocks). with_frame bs (live_count c.reach.new.self) (layout_at c.reach.new.self c.args.layout).shapes) same
    ∙ ap (λ n. with_frame (blocks_of c.args.self.now) n (layout_at c.reach.new.self c.args.layout).shapes) c.in_ok-reach.ensures.live
    ∙ ap (λ (ls : List FrameLayout). with_frame (blocks_of c.args.self.now) c.args.depth (layout_in ls c.args.layout).shapes) (c.reach.ensures.layouts ∙ c.leave.ensures.layouts))

pub returns-clause-err : goal.returns-clause-err
returns-clause-err c =
    on_err-then c.begin.result c.begin.ensures.err (λ same.
    same ∙ c.reach.ensures.blocks ∙ c.leave.ensures.blocks ∙ without_frames-free (blocks_of c.args.self.now) c.args.depth c.requires)

pub returns-clause-below : goal.returns-clause-below
returns-clause-below c =
    on_ok-then c.begin.result c.begin.ensures.ok (λ begun d lt live.
    let left = c.leave.ensures.below d lt in
    let reached = c.reach.ensures.below d (live_same c.args.self.now c.leave.new.self d live left) in
    let added = c.begin.ensures.below d (omega (arith, lt, c.in_ok-reach.ensures.live)) in
    added ∙ reached ∙ left)

pub returns-clause-kept : goal.returns-clause-kept
returns-clause-kept c =
    on_ok-then c.begin.result c.begin.ensures.ok (λ begun d number lt st.
    let left = c.leave.ensures.below d lt in
    let reached = c.reach.ensures.below d (live_same c.args.self.now c.leave.new.self d st.is_live left) in
    let added = c.begin.ensures.below d (omega (arith, lt, c.in_ok-reach.ensures.live)) in
    Stands-same c.args.self.now c.begin.new.self d number (added ∙ reached ∙ left) st)
