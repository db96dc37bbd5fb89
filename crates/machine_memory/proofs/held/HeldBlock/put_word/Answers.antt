use Rattle.std.proofs.Common.{◌∙◌, ap, arith, FitsSigned, List, set, subst, w64, ℤ}
use Rattle.std.proofs.lemmas.Int.{to_z-of_z}
use Rattle.pt_base.specs.declared.int_type.IntType.{IntType}
use Rattle.machine_memory.specs.Held.{held_cells, IsRead}
use Rattle.machine_memory.proofs.HeldLemmas.{read_put}
use Rattle.machine_memory.proofs.held.HeldBlock.put_word.Goals as goal

pub returns-then-is_read : goal.returns-then-is_read
returns-then-is_read c =
    let fits : FitsSigned w64 c.args.w = c.ranges.w in
    ap (λ (w : ℤ). record { types = c.self.inside.types.items; cells = held_cells c.self.inside.types.items (set c.self.inside.words.items c.args.at w) c.self.inside.opened c.self.inside.cells }) (to_z-of_z w64 c.args.w fits)
    ∙ read_put _ _ _ _ _ c.args.at c.args.wide c.args.w c.self.view_is c.self.invariant.held c.if-is_read.ensures.0 (subst (λ (ts : List IntType). IsRead ts c.args.at c.args.wide) c.deref.ensures.value c.if-is_read.ensures.1) (omega (arith, c.self.inside.words.ok.0))
