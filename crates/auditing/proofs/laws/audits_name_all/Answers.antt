use Rattle.auditing.proofs.NamedFunctions.{all_named}
use Rattle.auditing.proofs.laws.audits_name_all.Goals as goal

pub returns : goal.returns
returns c = all_named
