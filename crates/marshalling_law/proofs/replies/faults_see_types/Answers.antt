use Rattle.marshalling_law.proofs.RepliesFaults.{faults_see_types}
use Rattle.marshalling_law.proofs.replies.faults_see_types.Goals as goal

pub returns : goal.returns
returns c = faults_see_types
