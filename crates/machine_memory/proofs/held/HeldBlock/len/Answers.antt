use Rattle.std.proofs.Common.{◌∙◌}
use Rattle.machine_memory.proofs.HeldLemmas.{held_len}
use Rattle.machine_memory.proofs.held.HeldBlock.len.Goals as goal

pub returns : goal.returns
returns c = c.len.ensures ∙ c.self.inside.types.ok.0 ∙ held_len _ _ _ _ _ c.self.view_is c.self.invariant.held
