use Rattle.std.proofs.Common.{◌∙◌, ap}
use Rattle.pt_core.specs.CodeTree.{view_expr, view_place}
use Rattle.code_rules.specs.Parts.{stores}
use Rattle.code_rules.specs.Scopes.{context_of}
use Rattle.code_rules.specs.Typing.{placed}
use Rattle.code_rules.proofs.StatementLaws.{store_is}
use Rattle.code_rules.proofs.statements.assignment_fits.Goals as goal

pub returns : goal.returns
returns c =
    c.stores.ensures ∙ ap (λ o. stores o c.expression_type.result) c.place_type-to.ensures
    ∙ ap (λ o. stores (placed (context_of c.args.scope.now) (view_place c.args.place.now)) o) c.expression_type.ensures
    ∙ store_is (context_of c.args.scope.now) (view_place c.args.place.now) (view_expr c.args.value.now)
