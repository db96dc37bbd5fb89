use Rattle.std.proofs.Common.{◌∙◌, ap}
use Rattle.pt_core.specs.CodeTree.{view_place}
use Rattle.code_rules.specs.Parts.{copies}
use Rattle.code_rules.specs.Scopes.{context_of}
use Rattle.code_rules.specs.Typing.{placed}
use Rattle.code_rules.proofs.StatementLaws.{copy_is}
use Rattle.code_rules.proofs.statements.copy_fits.Goals as goal

pub returns : goal.returns
returns c =
    c.copies.ensures ∙ ap (λ o. copies o c.place_type.result) c.place_type-to.ensures
    ∙ ap (λ o. copies (placed (context_of c.args.scope.now) (view_place c.args.to.now)) o) c.place_type.ensures
    ∙ copy_is (context_of c.args.scope.now) (view_place c.args.to.now) (view_place c.args.of.now)
