use Rattle.std.proofs.Common.{◌≡◌, ◌++◌, drop, map}
use Rattle.label_threads.specs.OwnLabels.{number_in}
use Rattle.label_threads.proofs.edges.numbers.Given as goal

abbrev pub invariant-loop-function : goal.invariant-loop-function
invariant-loop-function l = l.list.items ++ map number_in (drop l.function-index l.functions) ≡ map number_in l.fn.functions
