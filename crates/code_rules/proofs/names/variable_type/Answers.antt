use Rattle.std.proofs.Common.{◌∙◌}
use Rattle.code_rules.specs.Typing.{rooted}
use Rattle.code_rules.proofs.PathLemmas.{variable_found}
use Rattle.code_rules.proofs.names.variable_type.Goals as goal

pub returns : goal.returns
unfolding rooted
returns c = c.type_at.ensures ∙ variable_found c.args.scope.now.variables.now c.args.v.0
