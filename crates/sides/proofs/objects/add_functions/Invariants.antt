use Rattle.std.proofs.Common.{◌≡◌, ◌++◌, drop, length, map}
use Rattle.typed_tree.specs.TypedTree.{view_function}
use Rattle.sides.specs.Layouts.{functions_objects}
use Rattle.sides.specs.Leaves.{leaf_count}
use Rattle.sides.specs.Slots.{functions_slots}
use Rattle.sides.proofs.objects.add_functions.Given as goal

abbrev pub invariant-loop-function : goal.invariant-loop-function
invariant-loop-function l = record {
  objects : l.objects.items ++ functions_objects (leaf_count l.structs) (length l.slots.items) (map view_function (drop l.function-index l.functions))
      ≡ functions_objects (leaf_count l.fn.structs) (length l.fn.slots.items) (map view_function l.fn.functions);
  slots : l.slots.items ++ functions_slots l.structs l.number (map view_function (drop l.function-index l.functions))
      ≡ l.fn.slots.items ++ functions_slots l.fn.structs 0 (map view_function l.fn.functions);
}
