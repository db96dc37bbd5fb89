use Rattle.std.proofs.Common.{◌≡◌, ◌++◌, drop}
use Rattle.outlining.specs.EntryTexts.{more_params}
use Rattle.outlining.specs.StructCells.{is_marked_in}
use Rattle.outlining.proofs.entries.push_more.Given as goal

abbrev pub invariant-loop-param : goal.invariant-loop-param
invariant-loop-param l = l.text.items ++ more_params (is_marked_in l.known) (drop l.param-index l.params) ≡ l.fn.text.items ++ more_params (is_marked_in l.known) l.fn.params
