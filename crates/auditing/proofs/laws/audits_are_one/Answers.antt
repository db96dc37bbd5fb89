use Rattle.auditing.proofs.OneAudit.{audit_is_one}
use Rattle.auditing.proofs.laws.audits_are_one.Goals as goal

pub returns : goal.returns
returns c = audit_is_one
