use Rattle.std.proofs.Common.{◌≡◌, drop, map}
use Rattle.typed_tree.specs.WellFormed.{are_rising}
use Rattle.pt_core.specs.CodeTree.{view_global}
use Rattle.boot_rules.proofs.numbers.globals_rise.Given as goal

abbrev pub invariant-loop-global : goal.invariant-loop-global
invariant-loop-global l = are_rising l.least (map (λ g. g.id) (map view_global (drop l.global-index l.globals))) ≡ are_rising 0 (map (λ g. g.id) (map view_global l.fn.globals))
