use Rattle.std.proofs.Common.{◌∙◌, ap}
use Rattle.typed_tree.specs.TypeTests.{is_scalar}
use Rattle.pt_core.specs.CodeTree.{view_expr}
use Rattle.code_rules.specs.Scopes.{context_of}
use Rattle.code_rules.proofs.StatementLaws.{condition_is}
use Rattle.code_rules.proofs.statements.condition_fits.Goals as goal

pub returns : goal.returns
returns c = c.is_scalar.ensures ∙ ap is_scalar c.expression_type.ensures ∙ condition_is (context_of c.args.scope.now) (view_expr c.args.cond.now)
