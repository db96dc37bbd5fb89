use Rattle.std.proofs.Common.{◌≡◌, drop, map}
use Rattle.pt_tree.specs.ProgramTree.{view_param}
use Rattle.c_printer.specs.Sheets.{lay}
use Rattle.c_printer.specs.Items as words
use Rattle.c_printer.proofs.items.more_parameters.Given as goal

abbrev pub invariant-loop-p : goal.invariant-loop-p
invariant-loop-p l = lay (words.more_params (map view_param (drop l.p-index l.params))) l.sheet ≡ lay (words.more_params (map view_param l.fn.params)) l.fn.sheet
