use Rattle.c_printer_law.proofs.Program.{reads_back}
use Rattle.c_printer_law.proofs.what_is_printed_reads_back.Goals as goal

pub returns : goal.returns
returns c = reads_back c.laid_words_are_the_tokens.ensures
