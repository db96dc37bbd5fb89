use Rattle.c_printer_law.proofs.LexingLaid.{laid_lexes}
use Rattle.c_printer_law.proofs.lexing.laid_words_are_the_tokens.Goals as goal

pub returns : goal.returns
returns c = laid_lexes
