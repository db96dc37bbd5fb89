use Rattle.std.proofs.Common.{◌≡◌, ◌∙◌, ap, refl, sym, true}
use Rattle.machine_memory.specs.Frames.{blocks_in, FrameState, layout_in}
use Rattle.machine_memory.specs.Memory.{live_count}
use Rattle.machine_memory.proofs.MemoryLemmas.{blocks_of-put, frame_read}
use Rattle.machine_memory.proofs.OpenLemmas.{open-written}
use Rattle.machine_memory.proofs.memory.MachineMemory.write_opened.Goals as goal

pub returns-then-at-self-clause-written : goal.returns-then-at-self-clause-written
unfolding live_count
returns-then-at-self-clause-written c =
    let m = c.args.self.now in
    let old : FrameState = c.index_mut.result.now in
    let new : FrameState = c.write.new.self in
    let opened : old.is_open ≡ true = ap (λ (f : FrameState). f.is_open) (sym (frame_read m c.args.depth old c.if-at-self.true c.index_mut.ensures.value)) ∙ (c.requires c.if-at-self.true).is_open in
    blocks_of-put m _ c.args.depth c.args.var c.args.cell c.args.c old new
    (record { layouts = refl; frames = refl; live = refl; globals = refl; received = refl; read = c.index_mut.ensures.value; within = c.if-at-self.true })
    (ap (λ n. blocks_in (layout_in m.layouts.items n) new) (ap (λ (f : FrameState). f.layout) c.write.ensures)
    ∙ open-written (layout_in m.layouts.items old.layout) old new c.args.var c.args.cell c.args.c opened c.write.ensures)
