use Rattle.independence_law.proofs.Law.{secret_control}
use Rattle.independence_law.proofs.laws.secret_control_changes_secrets_alone.Goals as goal

pub returns : goal.returns
returns c = secret_control
