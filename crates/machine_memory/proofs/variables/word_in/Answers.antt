use Rattle.std.proofs.Common.{◌≡◌, ◌∙◌, ap, FitsSigned, List, pos, rules, Some, subst, sym, w64, ℤ}
use Rattle.std.specs.Prelude.{IfSome, slice_get}
use Rattle.block_memory.specs.declared.cell.Cell.{Cell}
use Rattle.std.proofs.lemmas.Int.{to_z-of_z}
use Rattle.std.proofs.lemmas.Option.{get_or_from_slice_get}
use Rattle.block_memory.specs.declared.cell.Cell.TheVariants.{Int}
use Rattle.word_arithmetic.specs.Words.{number_of}
use Rattle.machine_memory.specs.Layouts.{IsInteger}
use Rattle.machine_memory.specs.Frames.{layout_in}
use Rattle.machine_memory.specs.Words.{number_cell}
use Rattle.machine_memory.proofs.HeldLemmas.{wide_cell}
use Rattle.machine_memory.proofs.VariableLemmas.{cells-opened, integer_in, integer_read}
use Rattle.machine_memory.proofs.variables.word_in.Goals as goal

pub word-requires : goal.word-requires
word-requires c =
    let is = subst (λ n. IsInteger (layout_in c.args.layouts.now n).shapes c.args.var c.args.cell c.in-Integer.place.ty c.in-Integer.place.at) c.layout.ensures c.in-Integer.ensures in
    integer_in _ c.args.frame.now c.args.var c.args.cell c.in-Integer.place.at c.in-Integer.place.ty c.requires is

pub returns-then-is_open : goal.returns-then-is_open
returns-then-is_open c =
    subst (λ (cells : List Cell). IfSome c.word_of_open.result (λ w. slice_get cells c.args.cell ≡ Some (Int (number_of c.args.wide w))))
    (c.cells.ensures ∙ sym (cells-opened (layout_in c.args.layouts.now c.args.frame.now.layout) c.args.frame.now c.args.var c.requires (sym c.is_open.ensures ∙ c.if-is_open.true)))
    c.word_of_open.ensures

pub returns-then-is_wide-wide : goal.returns-then-is_wide-wide
returns-then-is_wide-wide c =
    let t = c.in-Integer.place.ty in
    let at = c.in-Integer.place.at in
    let layout = layout_in c.args.layouts.now c.args.frame.now.layout in
    let closed = sym c.is_open.ensures ∙ c.if-is_open.false in
    let is = subst (λ n. IsInteger (layout_in c.args.layouts.now n).shapes c.args.var c.args.cell t at) c.layout.ensures c.in-Integer.ensures in
    let fits : FitsSigned w64 c.word.result = search rules in
    integer_read layout c.args.frame.now c.args.var c.args.cell at t closed is
    ∙ ap (λ (w : ℤ). Some (number_cell t w)) (get_or_from_slice_get c.args.frame.now.words at c.word.result (pos 0) c.word.ensures)
    ∙ ap Some (wide_cell t c.is_wide.result c.args.wide c.word.result c.is_wide.ensures c.if-is_wide-wide.true)
    ∙ ap (λ (w : ℤ). Some (Int (number_of c.args.wide w))) (sym (to_z-of_z w64 c.word.result fits))
