use Rattle.std.proofs.Common.{◌∙◌, ap, length, List, sym}
use Rattle.pt_base.specs.declared.int_type.IntType.{IntType}
use Rattle.machine_memory.proofs.HeldLemmas.{held_len}
use Rattle.machine_memory.proofs.held.HeldBlock.put_cells.Goals as goal

pub of-requires : goal.of-requires
of-requires c = ap (λ (ts : List IntType). length ts) c.deref.ensures.value ∙ held_len _ _ _ _ _ c.self.view_is c.self.invariant.held ∙ sym c.requires
