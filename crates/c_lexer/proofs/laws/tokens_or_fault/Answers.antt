use Rattle.c_lexer.proofs.Walks.{tokens_or_fault}
use Rattle.c_lexer.proofs.laws.tokens_or_fault.Goals as goal

pub returns : goal.returns
returns c = tokens_or_fault
