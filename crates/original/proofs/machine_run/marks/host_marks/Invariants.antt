use Rattle.std.proofs.Common.{◌≡◌, ◌++◌, drop, map}
use Rattle.typed_tree.specs.TypedTree.{view_function}
use Rattle.typed_tree.specs.TypedView.{view_typed}
use Rattle.original.specs.MachineRunHostGates.{marks_of}
use Rattle.original.proofs.machine_run.marks.host_marks.Given as goal

abbrev pub invariant-loop-function : goal.invariant-loop-function
invariant-loop-function l = l.marks.items ++ map (λ f. f.signature.host) (map view_function (drop l.function-index l.program.functions.items)) ≡ marks_of (view_typed l.fn.program)
