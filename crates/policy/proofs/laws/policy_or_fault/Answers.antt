use Rattle.policy.proofs.LawLemmas.{policy_or_fault_lem, fault_is_one}
use Rattle.policy.proofs.laws.policy_or_fault.Goals as goal

pub returns-clause-either : goal.returns-clause-either
returns-clause-either c = policy_or_fault_lem

pub returns-clause-one : goal.returns-clause-one
returns-clause-one c = fault_is_one
