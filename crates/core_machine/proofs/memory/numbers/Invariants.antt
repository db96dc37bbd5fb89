use Rattle.std.proofs.Common.{◌≡◌, ◌++◌, drop, map}
use Rattle.pt_core.specs.Values.{number_in}
use Rattle.core_machine.proofs.memory.numbers.Given as goal

abbrev pub invariant-loop-cell : goal.invariant-loop-cell
invariant-loop-cell l = l.numbers.items ++ map number_in (drop l.cell-index l.cells) ≡ map number_in l.fn.cells
