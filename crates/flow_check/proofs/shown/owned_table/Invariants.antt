use Rattle.std.proofs.Common.{◌≡◌, drop, map}
use Rattle.reach.specs.Tables.{set_all}
use Rattle.flow_check.specs.Kept.{owned_table}
use Rattle.flow_check.proofs.shown.owned_table.Given as goal

abbrev pub invariant-loop-global : goal.invariant-loop-global
invariant-loop-global l = set_all l.table.items (map (λ g. g.0) (drop l.global-index l.owned)) ≡ owned_table l.fn.count l.fn.owned
