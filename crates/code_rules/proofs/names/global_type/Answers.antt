use Rattle.std.proofs.Common.{◌∙◌, sym}
use Rattle.code_rules.specs.Scopes.{context_of}
use Rattle.code_rules.proofs.TypingLaws.{rooted_global}
use Rattle.code_rules.proofs.names.global_type.Goals as goal

pub returns : goal.returns
returns c = c.type_by_number.ensures ∙ sym (rooted_global (context_of c.args.scope.now) c.args.g.0)
