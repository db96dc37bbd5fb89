use Rattle.std.proofs.Common.{◌≡◌, drop, map}
use Rattle.typed_tree.specs.WellFormed.{are_rising}
use Rattle.pt_core.specs.CodeTree.{view_function}
use Rattle.boot_rules.proofs.numbers.functions_rise.Given as goal

abbrev pub invariant-loop-function : goal.invariant-loop-function
invariant-loop-function l = are_rising l.least (map (λ f. f.id) (map view_function (drop l.function-index l.functions))) ≡ are_rising 0 (map (λ f. f.id) (map view_function l.fn.functions))
