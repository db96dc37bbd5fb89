use Rattle.std.proofs.Common.{◌≡◌, drop}
use Rattle.std.specs.List.{list_any}
use Rattle.flow_rules.proofs.functions.has_marked.Given as goal

abbrev pub invariant-loop-param : goal.invariant-loop-param
invariant-loop-param l = list_any (λ q. q.marked) (drop l.param-index l.params) ≡ list_any (λ q. q.marked) l.fn.params
