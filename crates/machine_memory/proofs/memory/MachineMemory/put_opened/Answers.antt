use Rattle.std.proofs.Common.{◌≡◌, ◌∙◌, ap, refl, sym, true}
use Rattle.machine_memory.specs.Frames.{blocks_in, FrameState, layout_in}
use Rattle.machine_memory.specs.Memory.{live_count}
use Rattle.machine_memory.proofs.MemoryLemmas.{frame_read}
use Rattle.machine_memory.proofs.PutLemmas.{blocks_of-put_cells, open-put, put-none}
use Rattle.machine_memory.proofs.memory.MachineMemory.put_opened.Goals as goal

pub returns-then-at-self-clause-written : goal.returns-then-at-self-clause-written
unfolding live_count
returns-then-at-self-clause-written c =
    let m = c.args.self.now in
    let old : FrameState = c.index_mut.result.now in
    let new : FrameState = c.put.new.self in
    let opened : old.is_open ≡ true = ap (λ (f : FrameState). f.is_open) (sym (frame_read m c.args.depth old c.if-at-self.true c.index_mut.ensures.value)) ∙ (c.requires.open c.if-at-self.true).is_open in
    blocks_of-put_cells m _ c.args.depth c.args.var c.args.cells old new
    (record { layouts = refl; frames = refl; live = refl; globals = refl; received = refl; read = c.index_mut.ensures.value; within = c.if-at-self.true })
    c.requires.long
    (ap (λ n. blocks_in (layout_in m.layouts.items n) new) (ap (λ (f : FrameState). f.layout) c.put.ensures)
    ∙ open-put (layout_in m.layouts.items old.layout) old new c.args.var c.args.cells opened c.put.ensures)

pub returns-else-at-self-clause-written : goal.returns-else-at-self-clause-written
unfolding live_count
returns-else-at-self-clause-written c = put-none c.args.self.now c.args.depth c.args.var c.args.cells c.if-at-self.false c.requires.long
