use Rattle.std.proofs.Common.{◌∙◌, ap}
use Rattle.pt_core.specs.CodeTree.{view_expr}
use Rattle.code_rules.specs.Parts.{stands}
use Rattle.code_rules.specs.Scopes.{context_of}
use Rattle.code_rules.proofs.StatementLaws.{value_is}
use Rattle.code_rules.proofs.statements.value_fits.Goals as goal

pub returns : goal.returns
returns c = c.stands.ensures ∙ ap (λ o. stands c.args.wanted o) c.expression_type.ensures ∙ value_is (context_of c.args.scope.now) c.args.wanted (view_expr c.args.value.now)
