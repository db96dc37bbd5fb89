use Rattle.std.proofs.Common.{◌∙◌, ap, option_map, sym}
use Rattle.typed_tree.specs.TypeTests.{both_int, integer_of}
use Rattle.pt_core.specs.CodeTree.{view_expr}
use Rattle.pt_core.specs.WellFormedStatement.{return_fits}
use Rattle.code_rules.specs.Scopes.{context_of, scope_of}
use Rattle.code_rules.proofs.StatementLaws.{return_is}
use Rattle.code_rules.proofs.statements.return_fits.Goals as goal

pub returns-in-Some : goal.returns-in-Some
returns-in-Some c =
    c.both_int.ensures ∙ ap (λ t. both_int t c.args.scope.now.result) (c.integer_of.ensures ∙ ap integer_of c.expression_type.ensures)
    ∙ return_is (context_of c.args.scope.now) (view_expr c.in-Some.value) c.args.scope.now.result
    ∙ ap (λ o. return_fits (scope_of c.args.scope.now) (option_map view_expr o)) (sym c.in-Some.is)
