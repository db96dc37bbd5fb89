use Rattle.std.proofs.Common.{◌∙◌, ap, arith, FitsSigned, rules, set, sym, w64, ℤ, List}
use Rattle.std.proofs.lemmas.Int.{to_z-of_z}
use Rattle.block_memory.specs.declared.cell.Cell.{Cell}
use Rattle.block_memory.specs.Block.{with_cell}
use Rattle.machine_memory.specs.Held.{held_cells}
use Rattle.std.proofs.lemmas.List.{set_past}
use Rattle.machine_memory.proofs.HeldLemmas.{held_len, held_put}
use Rattle.machine_memory.proofs.held.HeldBlock.write_in_place.Goals as goal

pub returns-then-at-len : goal.returns-then-at-len
returns-then-at-len c =
    ap (λ (cells : List Cell). record { types = c.args.self.now.types; cells = cells }) (sym (set_past c.args.self.now.cells c.args.at c.args.c.now (omega (arith, held_len _ _ _ _ _ c.self.view_is c.self.invariant.held, c.self.inside.types.ok.0))))

pub returns-in-Some : goal.returns-in-Some
returns-in-Some c =
    let fits : FitsSigned w64 c.in-Some.w = search rules in
    ap (λ (w : ℤ). record { types = c.self.inside.types.items; cells = held_cells c.self.inside.types.items (set c.self.inside.words.items c.args.at w) c.self.inside.opened c.self.inside.cells }) (to_z-of_z w64 c.in-Some.w fits)
    ∙ held_put _ _ _ _ _ c.args.at c.index.result.now c.in-Some.w c.self.view_is c.self.invariant.held c.if-self.false (omega (arith, c.self.inside.types.ok.0)) c.index.ensures
    ∙ ap (with_cell c.args.self.now c.args.at) c.in-Some.ensures
