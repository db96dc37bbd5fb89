use Rattle.std.proofs.Common.{sym, arith}
use Rattle.c_lexer.proofs.SpellingLemmas.{no_keyword}
use Rattle.c_lexer.proofs.spelling.keyword.Goals as goal

pub returns-in_default : goal.returns-in_default
returns-in_default c =
    sym (no_keyword c.args.word.now
    (λ e. omega arith) (λ e. omega arith) (λ e. omega arith) (λ e. omega arith) (λ e. omega arith)
    (λ e. omega arith) (λ e. omega arith) (λ e. omega arith) (λ e. omega arith))
