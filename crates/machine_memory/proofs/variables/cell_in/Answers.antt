use Rattle.std.proofs.Common.{◌∙◌, ◌∷◌, ◌<◌, ◌≤◌, [], ap, arith, get_or, length, List, map, pos, subst, sym, ℤ}
use Rattle.std.proofs.lemmas.List.{get_or_past}
use Rattle.std.proofs.lemmas.Option.{get_or_from_slice_get}
use Rattle.block_memory.specs.declared.cell.Cell.{Cell}
use Rattle.block_memory.specs.declared.cell.Cell.TheVariants.{Int, Ptr}
use Rattle.block_memory.specs.declared.cell.Pointer.TheVariants.{Null}
use Rattle.block_memory.specs.Block.{fresh, no_block}
use Rattle.machine_memory.specs.Layouts.{IsInteger, IsPointer}
use Rattle.machine_memory.specs.Frames.{blocks_in, layout_in}
use Rattle.machine_memory.specs.Words.{number_cell}
use Rattle.machine_memory.proofs.VariableLemmas.{cells-opened, count-closed, integer_in, integer_read, pointer_in, pointer_read}
use Rattle.machine_memory.proofs.variables.cell_in.Goals as goal

pub returns-then-is_open : goal.returns-then-is_open
returns-then-is_open c =
    c.cell_of_open.ensures
    ∙ ap (λ (cells : List Cell). get_or cells c.args.cell (Int (pos 0)))
    (c.cells.ensures ∙ sym (cells-opened (layout_in c.args.layouts.now c.args.frame.now.layout) c.args.frame.now c.args.var c.requires (sym c.is_open.ensures ∙ c.if-is_open.true)))

pub cell_at-requires : goal.cell_at-requires
cell_at-requires c =
    let is = subst (λ n. IsInteger (layout_in c.args.layouts.now n).shapes c.args.var c.args.cell c.in-Integer.place.ty c.in-Integer.place.at) c.layout.ensures c.in-Integer.ensures in
    subst (λ (ws : List ℤ). c.in-Integer.place.at < length ws) (sym c.words.ensures) (integer_in _ c.args.frame.now c.args.var c.args.cell c.in-Integer.place.at c.in-Integer.place.ty c.requires is)

pub entry-requires : goal.entry-requires
entry-requires c =
    let is = subst (λ n. IsPointer (layout_in c.args.layouts.now n).shapes c.args.var c.in-Pointer.at) c.layout.ensures c.in-Pointer.ensures.0 in
    pointer_in _ c.args.frame.now c.args.var c.in-Pointer.at c.requires is

pub returns-in-Integer : goal.returns-in-Integer
returns-in-Integer c =
    let layout = layout_in c.args.layouts.now c.args.frame.now.layout in
    let closed = sym c.is_open.ensures ∙ c.if-is_open.false in
    let is = subst (λ n. IsInteger (layout_in c.args.layouts.now n).shapes c.args.var c.args.cell c.in-Integer.place.ty c.in-Integer.place.at) c.layout.ensures c.in-Integer.ensures in
    c.cell_at.ensures
    ∙ ap (λ (ws : List ℤ). number_cell c.in-Integer.place.ty (get_or ws c.in-Integer.place.at (pos 0))) c.words.ensures
    ∙ sym (get_or_from_slice_get (get_or (blocks_in layout c.args.frame.now) c.args.var no_block).cells c.args.cell (number_cell c.in-Integer.place.ty (get_or c.args.frame.now.words c.in-Integer.place.at (pos 0))) (Int (pos 0))
    (integer_read layout c.args.frame.now c.args.var c.args.cell c.in-Integer.place.at c.in-Integer.place.ty closed is))

pub returns-in-Pointer : goal.returns-in-Pointer
returns-in-Pointer c =
    let layout = layout_in c.args.layouts.now c.args.frame.now.layout in
    let entries = c.args.frame.now.entries in
    let closed = sym c.is_open.ensures ∙ c.if-is_open.false in
    let is = subst (λ n. IsPointer (layout_in c.args.layouts.now n).shapes c.args.var c.in-Pointer.at) c.layout.ensures c.in-Pointer.ensures.0 in
    sym (ap (λ (cells : List Cell). get_or cells c.args.cell (Int (pos 0))) (pointer_read layout c.args.frame.now c.args.var c.in-Pointer.at closed is)
    ∙ ap (λ k. get_or (Ptr (get_or entries c.in-Pointer.at Null) ∷ []) k (Int (pos 0))) c.in-Pointer.ensures.1
    ∙ ap Ptr (get_or_from_slice_get entries c.in-Pointer.at c.entry.result Null c.entry.ensures))

pub returns-in-Missing : goal.returns-in-Missing
returns-in-Missing c =
    let layout = layout_in c.args.layouts.now c.args.frame.now.layout in
    let closed = sym c.is_open.ensures ∙ c.if-is_open.false in
    let few = count-closed layout c.args.frame.now c.args.var closed in
    let none = subst (λ n. length (get_or (map fresh (layout_in c.args.layouts.now n).shapes) c.args.var no_block).cells ≤ c.args.cell) c.layout.ensures c.in-Missing.ensures in
    sym (get_or_past (get_or (blocks_in layout c.args.frame.now) c.args.var no_block).cells c.args.cell (Int (pos 0)) (omega (arith, few, none)))
