use Rattle.std.proofs.Common.{◌≡◌, ◌++◌, drop, map}
use Rattle.std.specs.List.{filter}
use Rattle.typed_tree.specs.TypedTree.{view_function}
use Rattle.pt_core.specs.CodeTree.{numbered}
use Rattle.lowering.specs.Functions.{signatures_from}
use Rattle.splitter.specs.Sets.{is_set}
use Rattle.splitter.proofs.signatures.signatures_in.Given as goal

-- those so far, and then the others, are all of them
abbrev pub invariant-loop-function : goal.invariant-loop-function
invariant-loop-function l =
    numbered l.all.items ++ filter (λ s. is_set l.needed s.0) (signatures_from l.number (map (λ f. f.signature) (map view_function (drop l.function-index l.functions))))
    ≡ filter (λ s. is_set l.fn.needed s.0) (signatures_from 0 (map (λ f. f.signature) (map view_function l.functions)))
