use Rattle.std.proofs.Common.{◌≡◌, ◌+◌, ◌^◌, [], drop, length, sum_by}
use Rattle.typed_tree.specs.Cells.{leaves_from}
use Rattle.core_machine.proofs.leaves.leaves_table.Given as goal

abbrev pub invariant-loop-info : goal.invariant-loop-info
invariant-loop-info l = (leaves_from l.known.items (drop l.info-index l.structs) ≡ leaves_from [] l.fn.structs) × (sum_by length l.known.items + l.left ≡ 2 ^ 26)
