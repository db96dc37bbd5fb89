use Rattle.std.proofs.Common.{◌≡◌, drop, map}
use Rattle.pt_tree.specs.StatementTree.{view_init_declarator}
use Rattle.c_printer.specs.Sheets.{lay}
use Rattle.c_printer.specs.Statements as words
use Rattle.c_printer.proofs.statements.more_init_declarators.Given as goal

abbrev pub invariant-loop-d : goal.invariant-loop-d
invariant-loop-d l = lay (words.more_init_declarators (map view_init_declarator (drop l.d-index l.ds))) l.sheet ≡ lay (words.more_init_declarators (map view_init_declarator l.fn.ds)) l.fn.sheet
