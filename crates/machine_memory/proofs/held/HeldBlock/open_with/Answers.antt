use Rattle.std.proofs.Common.{◌∙◌, ap, false, inl, length, length-set, List, refl, sym}
use Rattle.block_memory.specs.declared.cell.Cell.{Cell}
use Rattle.machine_memory.proofs.HeldLemmas.{held_len}
use Rattle.machine_memory.proofs.held.HeldBlock.open_with.Goals as goal

pub invariant_of-self : goal.invariant_of-self
invariant_of-self c = record {
  held = record {
    words_count = c.self.invariant.held.words_count;
    cells_count = λ e.
        ap (λ (cells : List Cell). length cells) c.write.ensures
        ∙ length-set c.args.cells c.args.at c.args.c
        ∙ ap (λ (cells : List Cell). length cells) c.requires
        ∙ sym (held_len _ _ _ _ _ c.self.view_is c.self.invariant.held);
  };
  read = tt;
  signed = inl refl;
  alike = (false, inl refl);
}
