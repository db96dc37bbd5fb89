use Rattle.std.proofs.Common.{◌≡◌, ◌++◌, drop, map}
use Rattle.flow_rules.specs.Findings.{unmarked_outs}
use Rattle.flow_rules.specs.Kept.{kept}
use Rattle.flow_rules.proofs.function_rules.add_outs.Given as goal

abbrev pub invariant-loop-number : goal.invariant-loop-number
invariant-loop-number l =
    l.list.items ++ map kept (unmarked_outs (drop l.number l.params) (drop l.number l.vars)) ≡ l.fn.list.items ++ map kept (unmarked_outs l.params l.vars)
