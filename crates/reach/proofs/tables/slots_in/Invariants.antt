use Rattle.std.proofs.Common.{◌≡◌, ◌++◌, drop}
use Rattle.reach.specs.Tables.{places_true, slot_numbers}
use Rattle.reach.proofs.tables.slots_in.Given as goal

abbrev pub invariant-loop-truth : goal.invariant-loop-truth
invariant-loop-truth l = l.list.items ++ slot_numbers (places_true l.number (drop l.truth-index l.table)) ≡ slot_numbers (places_true 0 l.fn.table)
