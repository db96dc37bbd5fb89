use Rattle.std.proofs.Common.{◌∙◌, ap, map, sym}
use Rattle.std.proofs.lemmas.List.{drop_all}
use Rattle.pt_core.specs.CodeTree.{expr_trees, view_expr}
use Rattle.pt_core.specs.WellFormedStatement.{arguments_fit}
use Rattle.code_rules.specs.Scopes.{context_of}
use Rattle.code_rules.proofs.StatementLaws.{arguments_end}
use Rattle.code_rules.proofs.statements.arguments_fit.Goals as goal

pub returns : goal.returns
returns c =
    c.is_empty.ensures ∙ arguments_end (context_of c.args.scope.now) c.loop-argument.rest.now
    ∙ sym (ap (λ ys. arguments_fit (context_of c.args.scope.now) c.loop-argument.rest.now (expr_trees (map view_expr ys))) (drop_all c.loop-argument.argument-index c.args.arguments.now c.loop-argument-test.false))
    ∙ c.loop-argument.invariant
