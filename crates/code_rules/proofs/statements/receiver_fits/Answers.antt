use Rattle.std.proofs.Common.{◌∙◌, ap, option_map, sym}
use Rattle.pt_core.specs.WellFormedStatement.{result_fits}
use Rattle.code_rules.specs.Parts.{receives}
use Rattle.code_rules.specs.Scopes.{context_of}
use Rattle.code_rules.proofs.StatementLaws.{receiver_is}
use Rattle.code_rules.proofs.statements.receiver_fits.Goals as goal

pub returns-in-Some : goal.returns-in-Some
returns-in-Some c =
    c.receives.ensures ∙ ap (λ o. receives c.args.of o) c.variable_type.ensures ∙ receiver_is (context_of c.args.scope.now) c.args.of c.in-Some.v.0
    ∙ ap (λ o. result_fits (context_of c.args.scope.now) c.args.of (option_map (λ v. v.0) o)) (sym c.in-Some.is)
