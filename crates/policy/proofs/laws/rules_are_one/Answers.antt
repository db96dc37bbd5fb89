use Rattle.policy.proofs.LawLemmas.{rule_is_one, policy_is_one}
use Rattle.policy.proofs.laws.rules_are_one.Goals as goal

pub returns-clause-words : goal.returns-clause-words
returns-clause-words c = rule_is_one

pub returns-clause-text : goal.returns-clause-text
returns-clause-text c = policy_is_one
