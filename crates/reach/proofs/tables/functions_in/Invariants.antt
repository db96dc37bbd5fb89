use Rattle.std.proofs.Common.{◌≡◌, ◌++◌, drop}
use Rattle.reach.specs.Tables.{places_true, function_ids}
use Rattle.reach.proofs.tables.functions_in.Given as goal

abbrev pub invariant-loop-truth : goal.invariant-loop-truth
invariant-loop-truth l = l.list.items ++ function_ids (places_true l.number (drop l.truth-index l.table)) ≡ function_ids (places_true 0 l.fn.table)
