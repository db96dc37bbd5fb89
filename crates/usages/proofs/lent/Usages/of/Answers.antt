use Rattle.std.proofs.Common.{◌∙◌, ap, map}
use Rattle.usages.specs.UsageView.{view_usage}
use Rattle.usages.proofs.lent.Usages.of.Goals as goal

pub returns : goal.returns
returns c = ap (map view_usage) c.body_at.ensures ∙ c.requires.each c.args.f
