use Rattle.std.proofs.Common.{◌≡◌, ◌∙◌, ◌≤◌, ap, get_or, length, List, map, subst, sym}
use Rattle.std.proofs.lemmas.List.{get_or_default}
use Rattle.block_memory.specs.declared.cell.BlockName.TheVariants.{Local}
use Rattle.block_memory.specs.declared.cell.Cell.TheVariants.{Ptr}
use Rattle.block_memory.specs.declared.cell.Pointer.{Pointer}
use Rattle.block_memory.specs.Block.{fresh, no_block, with_cell}
use Rattle.block_memory.specs.Blocks.{put}
use Rattle.machine_memory.specs.Layouts.{FrameLayout, IsInteger, IsPointer, no_layout}
use Rattle.machine_memory.specs.Frames.{layout_in}
use Rattle.machine_memory.specs.Memory.{blocks_of, layouts_of}
use Rattle.machine_memory.proofs.ClearLemmas.{integers-of, missing-put, pointer-fresh}
use Rattle.machine_memory.proofs.VariableLemmas.{pointer_below}
use Rattle.machine_memory.proofs.memory.MachineMemory.clear_closed.Goals as goal

pub zero-requires-clause-place : goal.zero-requires-clause-place
unfolding layouts_of
zero-requires-clause-place c =
    let layouts : List FrameLayout = c.args.self.now.layouts.items in
    let seen : FrameLayout = c.index.result.now in
    let is = subst (λ (ls : List FrameLayout). IsInteger (layout_in ls c.args.number).shapes c.args.var 0 c.in-Integer.place.ty c.in-Integer.place.at) c.deref.ensures.value c.in-Integer.ensures in
    let same : seen ≡ layout_in layouts c.args.number = c.index.ensures ∙ sym (get_or_default layouts c.args.number no_layout seen c.requires.known) in
    integers-of (layout_in layouts c.args.number).shapes c.args.var c.in-Integer.place.at c.count-count.result c.in-Integer.place.ty is
    (c.count-count.ensures ∙ ap (λ (l : FrameLayout). length (get_or (map fresh l.shapes) c.args.var no_block).cells) same)

pub set_pointer_in-requires-clause-place : goal.set_pointer_in-requires-clause-place
unfolding layouts_of
set_pointer_in-requires-clause-place c =
    let is = subst (λ (ls : List FrameLayout). IsPointer (layout_in ls c.args.number).shapes c.args.var c.in-Pointer.at) c.deref.ensures.value c.in-Pointer.ensures.0 in
    pointer_below (layout_in c.args.self.now.layouts.items c.args.number).shapes c.args.var c.in-Pointer.at is

pub returns-in-Pointer-clause-cleared : goal.returns-in-Pointer-clause-cleared
unfolding layouts_of
returns-in-Pointer-clause-cleared c =
    let m = c.args.self.now in
    let is = subst (λ (ls : List FrameLayout). IsPointer (layout_in ls c.args.number).shapes c.args.var c.in-Pointer.at) c.deref.ensures.value c.in-Pointer.ensures.0 in
    c.set_pointer_in.ensures.pointer c.args.var is
    ∙ ap (λ (p : Pointer). put (blocks_of m) (Local c.args.depth c.args.var) (with_cell (blocks_of m (Local c.args.depth c.args.var)) 0 (Ptr p))) c.null.ensures
    ∙ ap (put (blocks_of m) (Local c.args.depth c.args.var)) (pointer-fresh m c.args.depth c.args.number c.args.var c.in-Pointer.at c.requires.stands is)

pub returns-in-Missing-clause-cleared : goal.returns-in-Missing-clause-cleared
unfolding layouts_of
returns-in-Missing-clause-cleared c =
    let none = subst (λ (ls : List FrameLayout). length (get_or (map fresh (layout_in ls c.args.number).shapes) c.args.var no_block).cells ≤ 0) c.deref.ensures.value c.in-Missing.ensures in
    missing-put c.args.self.now c.args.depth c.args.number c.args.var c.requires.stands none
