use Rattle.std.proofs.Common.{◌∙◌, ap, arith, FitsSigned, List, rules, subst, sym, w64, ℤ, ℕ}
use Rattle.std.proofs.lemmas.Int.{to_z-of_z}
use Rattle.block_memory.specs.declared.cell.BlockName.TheVariants.{Local}
use Rattle.block_memory.specs.declared.cell.Cell.{Cell}
use Rattle.block_memory.specs.declared.cell.Cell.TheVariants.{Ptr}
use Rattle.block_memory.specs.declared.cell.Pointer.{Pointer}
use Rattle.block_memory.specs.Block.{with_cell}
use Rattle.block_memory.specs.Blocks.{put}
use Rattle.machine_memory.specs.Layouts.{FrameLayout, IsInteger, IsPointer}
use Rattle.machine_memory.specs.Frames.{layout_in}
use Rattle.machine_memory.specs.Memory.{blocks_of, layouts_of}
use Rattle.machine_memory.specs.Words.{number_cell}
use Rattle.machine_memory.proofs.VariableLemmas.{integer_below, pointer_below}
use Rattle.machine_memory.proofs.memory.MachineMemory.write_closed.Goals as goal

pub set_word_in-requires-clause-place : goal.set_word_in-requires-clause-place
unfolding layouts_of
set_word_in-requires-clause-place c =
    let is = subst (λ (ls : List FrameLayout). IsInteger (layout_in ls c.layout-number.result).shapes c.args.var c.args.cell c.in-Integer.place.ty c.in-Integer.place.at) c.deref.ensures.value c.in-Integer.ensures in
    omega (arith, integer_below (layout_in c.args.self.now.layouts.items c.layout-number.result).shapes c.args.var c.args.cell c.in-Integer.place.at c.in-Integer.place.ty is)

pub set_pointer_in-requires-clause-place : goal.set_pointer_in-requires-clause-place
unfolding layouts_of
set_pointer_in-requires-clause-place c =
    let is = subst (λ (ls : List FrameLayout). IsPointer (layout_in ls c.layout-number.result).shapes c.args.var c.in-Pointer.at) c.deref.ensures.value c.in-Pointer.ensures.0 in
    pointer_below (layout_in c.args.self.now.layouts.items c.layout-number.result).shapes c.args.var c.in-Pointer.at is

pub returns-in-Some-clause-written : goal.returns-in-Some-clause-written
unfolding layouts_of
returns-in-Some-clause-written c =
    let is = subst (λ (ls : List FrameLayout). IsInteger (layout_in ls c.layout-number.result).shapes c.args.var c.args.cell c.in-Integer.place.ty c.in-Integer.place.at) c.deref.ensures.value c.in-Integer.ensures in
    let fits : FitsSigned w64 c.in-Some.w = search rules in
    let write = λ (x : Cell). put (blocks_of c.args.self.now) (Local c.args.depth c.args.var) (with_cell (blocks_of c.args.self.now (Local c.args.depth c.args.var)) c.args.cell x) in
    c.set_word_in.ensures.integer c.args.var c.args.cell c.in-Integer.place.ty is
    ∙ ap (λ (w : ℤ). write (number_cell c.in-Integer.place.ty w)) (to_z-of_z w64 c.in-Some.w fits)
    ∙ ap write c.in-Some.ensures

pub returns-in-Ptr-clause-written : goal.returns-in-Ptr-clause-written
unfolding layouts_of
returns-in-Ptr-clause-written c =
    let is = subst (λ (ls : List FrameLayout). IsPointer (layout_in ls c.layout-number.result).shapes c.args.var c.in-Pointer.at) c.deref.ensures.value c.in-Pointer.ensures.0 in
    let write = λ (k : ℕ) (x : Cell). put (blocks_of c.args.self.now) (Local c.args.depth c.args.var) (with_cell (blocks_of c.args.self.now (Local c.args.depth c.args.var)) k x) in
    c.set_pointer_in.ensures.pointer c.args.var is
    ∙ ap (λ (p : Pointer). write 0 (Ptr p)) c.of.ensures
    ∙ ap (λ k. write k (Ptr c.in-Ptr.p)) (sym c.in-Pointer.ensures.1)
    ∙ ap (write c.args.cell) (sym c.in-Ptr.is)
