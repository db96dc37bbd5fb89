use Rattle.std.proofs.Common.{◌∙◌, ap, nat_eq}
use Rattle.std.specs.Map.{lookup}
use Rattle.pt_core.specs.CodeTree.{numbered}
use Rattle.boot_rules.proofs.code.signature_at.Goals as goal

pub returns : goal.returns
returns c = c.signature_of.ensures ∙ ap (λ xs. lookup (nat_eq c.args.f.0) (numbered xs)) c.names_of-names.ensures.signatures
