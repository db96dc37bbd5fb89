use Rattle.std.proofs.Common.{◌≡◌, ◌++◌, drop, map}
use Rattle.pt_core.specs.CodeTree.{view_function}
use Rattle.pt_core.proofs.copy_program.copied_functions.Given as goal

-- the copies so far, and then the others, are all of them
abbrev pub invariant-loop-function : goal.invariant-loop-function
invariant-loop-function l = map view_function l.copies.items ++ map view_function (drop l.function-index l.functions) ≡ map view_function l.functions
