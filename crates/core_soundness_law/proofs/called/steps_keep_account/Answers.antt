use Rattle.core_soundness_law.proofs.CalledAccounts.{steps_keep_account}
use Rattle.core_soundness_law.proofs.called.steps_keep_account.Goals as goal

pub returns : goal.returns
returns g c = steps_keep_account
