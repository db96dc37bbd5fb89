use Rattle.std.proofs.Common.{◌≡◌, drop, length, map}
use Rattle.std.specs.Prelude.{nat_le, sum_by}
use Rattle.pt_core.specs.CodeTree.{view_global}
use Rattle.pt_core.specs.WellFormed.{are_small}
use Rattle.boot_rules.proofs.globals.are_small.Given as goal

abbrev pub invariant-loop-global : goal.invariant-loop-global
invariant-loop-global l = nat_le (sum_by (λ g. length g.cells) (map view_global (drop l.global-index l.globals))) l.left ≡ are_small (map view_global l.fn.globals)
