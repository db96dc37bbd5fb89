use Rattle.std.proofs.Common.{◌≡◌, ◌∙◌, ◌<◌, [], ap, arith, get_or, length, List, map, refl, replicate, subst, sym, true}
use Rattle.std.proofs.lemmas.List.{get_or_default}
use Rattle.block_memory.specs.declared.cell.Cell.{Cell}
use Rattle.block_memory.specs.Block.{fresh, no_block}
use Rattle.machine_memory.specs.Layouts.{FrameLayout, no_layout}
use Rattle.machine_memory.specs.Frames.{FrameState, layout_in}
use Rattle.machine_memory.specs.Memory.{layouts_of, live_count}
use Rattle.machine_memory.proofs.ClearLemmas.{fill-put}
use Rattle.machine_memory.proofs.MemoryLemmas.{frame_read}
use Rattle.machine_memory.proofs.memory.MachineMemory.clear_open.Goals as goal

pub returns-clause-cleared : goal.returns-clause-cleared
unfolding layouts_of live_count
returns-clause-cleared c =
    let m = c.args.self.now in
    let layouts : List FrameLayout = m.layouts.items in
    let frames : List FrameState = m.frames.items in
    let old : FrameState = c.index_mut.result.now in
    let new : FrameState = c.fill.new.self in
    let first : FrameState = c.index.result.now in
    let seen : FrameLayout = c.index-layout.result.now in
    let within : c.args.depth < length frames = omega (arith, c.requires.open.is_live, m.sized.within) in
    let same : seen ≡ layout_in layouts c.args.number = c.index-layout.ensures ∙ sym (get_or_default layouts c.args.number no_layout seen c.requires.known) in
    let same-frame : first ≡ old = c.index.ensures ∙ get_or_default frames c.args.depth first old within ∙ sym c.index_mut.ensures.value in
    let here = frame_read m c.args.depth old c.requires.open.is_live c.index_mut.ensures.value in
    let opened : old.is_open ≡ true = ap (λ (f : FrameState). f.is_open) (sym here) ∙ c.requires.open.is_open in
    let number = ap (λ (f : FrameState). f.layout) (sym here) ∙ c.requires.layout in
    let many : length (get_or old.cells c.args.var []) ≡ length (get_or (map fresh (layout_in layouts c.args.number).shapes) c.args.var no_block).cells =
    ap (λ (f : FrameState). length (get_or f.cells c.args.var [])) (sym same-frame)
    ∙ ap (λ (cs : List Cell). length cs) (sym c.cells.ensures)
    ∙ c.if-cells-count.false
    ∙ c.count-count.ensures
    ∙ ap (λ (l : FrameLayout). length (get_or (map fresh l.shapes) c.args.var no_block).cells) same
    in
    let blanks = subst (λ (l : FrameLayout). (get_or (map fresh l.shapes) c.args.var no_block).cells ≡ replicate (length (get_or (map fresh l.shapes) c.args.var no_block).cells) c.blank-blank.result) same c.blank-blank.ensures in
    fill-put m _ c.args.depth c.args.number c.args.var c.blank-blank.result old new
    (record { layouts = refl; frames = refl; live = refl; globals = refl; received = refl; read = c.index_mut.ensures.value; within = c.requires.open.is_live })
    opened number c.fill.ensures many blanks
