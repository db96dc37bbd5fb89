use Rattle.std.proofs.Common.{◌∙◌, List, ap, slice_get, sym}
use Rattle.sides.specs.declared.objects.Object.{Object}
use Rattle.flow_rules.proofs.plain_rule.parameter_like.Goals as goal

pub returns-then-is_same : goal.returns-then-is_same
returns-then-is_same c = (ap (λ (os : List Object). slice_get os c.args.k) (sym c.variables_of.ensures) ∙ sym c.in_ok-object.ensures, c.is_same.ensures c.if-is_same.true)
