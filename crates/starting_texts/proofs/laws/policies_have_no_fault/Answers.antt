use Rattle.starting_texts.proofs.RuleLemmas.{no_policy_fault}
use Rattle.starting_texts.proofs.laws.policies_have_no_fault.Goals as goal

pub returns : goal.returns
returns c = no_policy_fault
