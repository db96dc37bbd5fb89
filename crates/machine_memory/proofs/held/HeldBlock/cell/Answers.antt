use Rattle.std.proofs.Common.{◌∙◌, ◌<◌, ap, arith, get_or, length, List, pos, sym, ℤ}
use Rattle.std.proofs.lemmas.List.{get_or_default, get_or_past}
use Rattle.std.proofs.lemmas.Option.{get_or_from_slice_get}
use Rattle.block_memory.specs.declared.cell.Cell.TheVariants.{Int}
use Rattle.machine_memory.specs.Words.{number_cell}
use Rattle.machine_memory.proofs.HeldLemmas.{held_len, held_word}
use Rattle.machine_memory.proofs.held.HeldBlock.cell.Goals as goal

pub returns-then-at-len : goal.returns-then-at-len
returns-then-at-len c =
    sym (get_or_past c.args.self.now.cells c.args.at (Int (pos 0)) (omega (arith, held_len _ _ _ _ _ c.self.view_is c.self.invariant.held, c.self.inside.types.ok.0)))

pub returns-else-self : goal.returns-else-self
returns-else-self c =
    let words : List ℤ = c.self.inside.words.items in
    let w : ℤ = get_or words c.args.at (pos 0) in
    let inside : c.args.at < length words = omega (arith, c.self.invariant.held.words_count, c.self.inside.types.ok.0) in
    let cell = held_word _ _ _ _ _ c.args.at c.index.result.now w c.self.view_is c.self.invariant.held c.if-self.false (omega (arith, c.self.inside.types.ok.0)) c.index.ensures (get_or_default words c.args.at (pos 0) w inside) in
    c.cell_at.ensures
    ∙ ap (λ (xs : List ℤ). number_cell c.index.result.now (get_or xs c.args.at (pos 0))) c.deref.ensures.value
    ∙ sym (get_or_from_slice_get c.args.self.now.cells c.args.at (number_cell c.index.result.now w) (Int (pos 0)) cell)
