use Rattle.std.proofs.Common.{◌≡◌, ◌++◌, drop}
use Rattle.reach.specs.Tables.{places_true, global_ids}
use Rattle.reach.proofs.tables.globals_in.Given as goal

abbrev pub invariant-loop-truth : goal.invariant-loop-truth
invariant-loop-truth l = l.list.items ++ global_ids (places_true l.number (drop l.truth-index l.table)) ≡ global_ids (places_true 0 l.fn.table)
