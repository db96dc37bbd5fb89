use Rattle.starting_texts.proofs.VerdictLemmas.{policies_allow_lem, policies_stay}
use Rattle.starting_texts.proofs.laws.policies_allow.Goals as goal

pub returns-clause-allows : goal.returns-clause-allows
returns-clause-allows c = policies_allow_lem

pub returns-clause-stays : goal.returns-clause-stays
returns-clause-stays c = policies_stay
