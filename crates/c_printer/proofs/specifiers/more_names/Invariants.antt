use Rattle.std.proofs.Common.{◌≡◌, drop}
use Rattle.c_printer.specs.Sheets.{lay}
use Rattle.c_printer.specs.Specifiers as words
use Rattle.c_printer.proofs.specifiers.more_names.Given as goal

abbrev pub invariant-loop-name : goal.invariant-loop-name
invariant-loop-name l = lay (words.more_names (drop l.name-index l.names)) l.sheet ≡ lay (words.more_names l.fn.names) l.fn.sheet
