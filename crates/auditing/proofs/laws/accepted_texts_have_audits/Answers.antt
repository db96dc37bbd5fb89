use Rattle.auditing.proofs.ExistingAudits.{accepted_audited}
use Rattle.auditing.proofs.laws.accepted_texts_have_audits.Goals as goal

pub returns : goal.returns
returns c = accepted_audited
