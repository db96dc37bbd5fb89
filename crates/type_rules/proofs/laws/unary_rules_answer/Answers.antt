use Rattle.type_rules.proofs.OperatorLemmas.{unary_answers}
use Rattle.type_rules.proofs.laws.unary_rules_answer.Goals as goal

pub returns : goal.returns
returns c = unary_answers
