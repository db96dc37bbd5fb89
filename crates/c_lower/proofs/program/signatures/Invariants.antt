use Rattle.std.proofs.Common.{◌≡◌, ◌++◌, map, drop}
use Rattle.typed_tree.specs.TypedTree.{view_function}
use Rattle.pt_core.specs.CodeTree.{numbered}
use Rattle.lowering.specs.Functions.{signatures_from}
use Rattle.c_lower.proofs.program.signatures.Given as goal

-- those so far, and then the others, are all of them
abbrev pub invariant-loop-function : goal.invariant-loop-function
invariant-loop-function l =
    numbered l.all.items ++ signatures_from l.number (map (λ f. f.signature) (map view_function (drop l.function-index l.functions)))
    ≡ signatures_from 0 (map (λ f. f.signature) (map view_function l.functions))
