use Rattle.std.proofs.Common.{◌≡◌, ◌++◌, drop, map}
use Rattle.typed_tree.specs.TypedTree.{view_function}
use Rattle.sides.specs.Slots.{results_slots}
use Rattle.sides.proofs.objects.add_results.Given as goal

abbrev pub invariant-loop-function : goal.invariant-loop-function
invariant-loop-function l = l.slots.items ++ results_slots l.number (map view_function (drop l._function-index l.functions)) ≡ l.fn.slots.items ++ results_slots 0 (map view_function l.fn.functions)
