use Rattle.policy.proofs.TextLaws.{policy_few}
use Rattle.policy.proofs.read.policy_over.Goals as goal

pub new-requires-2 : goal.new-requires-2
new-requires-2 c = policy_few _ _ _ c.in_ok-rules.ensures
