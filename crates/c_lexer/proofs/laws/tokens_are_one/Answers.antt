use Rattle.c_lexer.proofs.Walks.{tokens_one, fault_one}
use Rattle.c_lexer.proofs.laws.tokens_are_one.Goals as goal

pub returns-clause-tokens : goal.returns-clause-tokens
returns-clause-tokens c = tokens_one

pub returns-clause-faults : goal.returns-clause-faults
returns-clause-faults c = fault_one
