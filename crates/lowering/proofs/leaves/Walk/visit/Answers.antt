use Rattle.std.proofs.Common.{refl, sym, ◌∙◌}
use Rattle.lowering.proofs.WaysLemmas.{arrived}
use Rattle.lowering.proofs.leaves.Walk.visit.Goals as goal

pub returns-then-is_leaf : goal.returns-then-is_leaf
returns-then-is_leaf c = arrived _ _ _ c.args.object c.requires (sym c.is_leaf.ensures ∙ c.if-is_leaf.true) refl refl
