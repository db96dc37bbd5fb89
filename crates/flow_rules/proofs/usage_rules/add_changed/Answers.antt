-- What changes in its place.
use Rattle.std.proofs.Common.{◌∙◌, refl, ap}
use Rattle.typed_tree.specs.ExpressionTree as tree
use Rattle.typed_tree.proofs.Rows.{view_compound, view_increment}
use Rattle.flow_rules.proofs.usage_rules.add_changed.Goals as goal

pub returns-in-Compound : goal.returns-in-Compound
returns-in-Compound c =
    rw (ap tree.view_form c.in-Compound.is ∙ view_compound c.in-Compound.place _ _ c.in-Compound.operand.value c.in-Compound.operand refl) c.add_looked_at.ensures

pub returns-in-Step : goal.returns-in-Step
returns-in-Step c = rw (ap tree.view_form c.in-Step.is ∙ view_increment c.in-Step.place _ _ _) c.add_looked_at-in-Step.ensures
