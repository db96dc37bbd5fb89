use Rattle.std.proofs.Common.{◌∙◌, ap, is_some}
use Rattle.pt_core.specs.CodeTree.{view_place}
use Rattle.code_rules.specs.Scopes.{context_of}
use Rattle.code_rules.proofs.StatementLaws.{check_is}
use Rattle.code_rules.proofs.statements.check_fits.Goals as goal

pub returns : goal.returns
returns c = c.is_some.ensures ∙ ap is_some c.place_type.ensures ∙ check_is (context_of c.args.scope.now) (view_place c.args.place.now)
