use Rattle.std.proofs.Common.{◌≡◌, drop, map}
use Rattle.typed_tree.specs.WellFormed.{are_rising}
use Rattle.pt_core.specs.CodeTree.{numbered}
use Rattle.boot_rules.proofs.numbers.numbers_rise.Given as goal

abbrev pub invariant-loop-item : goal.invariant-loop-item
invariant-loop-item g l = are_rising l.least (map (λ x. x.0) (numbered (drop l.item-index l.items))) ≡ are_rising 0 (map (λ x. x.0) (numbered l.fn.items))
