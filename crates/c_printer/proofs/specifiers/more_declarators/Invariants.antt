use Rattle.std.proofs.Common.{◌≡◌, drop}
use Rattle.c_printer.specs.Sheets.{lay}
use Rattle.c_printer.specs.Specifiers as words
use Rattle.c_printer.proofs.specifiers.more_declarators.Given as goal

abbrev pub invariant-loop-d : goal.invariant-loop-d
invariant-loop-d l = lay (words.more_declarators (drop l.d-index l.declarators)) l.sheet ≡ lay (words.more_declarators l.fn.declarators) l.fn.sheet
