use Rattle.c_printer_law.proofs.Program.{derives_again}
use Rattle.c_printer_law.proofs.words_derive_their_program.Goals as goal

pub returns : goal.returns
returns c = derives_again
