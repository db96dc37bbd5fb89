use Rattle.std.proofs.Common.{◌∙◌, ap, arith, List, refl}
use Rattle.machine_memory.specs.Layouts.{FrameLayout}
use Rattle.machine_memory.specs.Frames.{layout_in, started}
use Rattle.machine_memory.proofs.LocalsLemmas.{blocks_of-begun}
use Rattle.machine_memory.proofs.memory.MachineMemory.begin.Goals as goal

pub returns-clause-ok : goal.returns-clause-ok
returns-clause-ok c =
    let keeps = c.make_room.ensures.keeps in
    let layouts = c.deref.ensures.value ∙ keeps.layouts in
    blocks_of-begun c.args.self.now _ c.args.number c.make_room.new.self.frames.items c.start.new.frame c.index_mut.result.now.cells
    (record {
      layouts = keeps.layouts;
      kept = keeps.frames;
      room = omega (arith, c.in_ok-make_room.ensures.room, keeps.live);
      frames_are = refl;
      live = refl;
      globals = keeps.globals;
      received = keeps.received;
      frame = c.in_ok-start.ensures ∙ ap (λ (ls : List FrameLayout). started (layout_in ls c.args.number) c.args.number c.index_mut.result.now.cells) layouts;
    })
