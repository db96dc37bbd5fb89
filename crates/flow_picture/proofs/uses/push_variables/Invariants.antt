use Rattle.std.proofs.Common.{◌≡◌, ◌++◌, drop}
use Rattle.flow_picture.specs.Kept.{variables_from}
use Rattle.flow_picture.proofs.uses.push_variables.Given as goal

abbrev pub invariant-loop-variable : goal.invariant-loop-variable
invariant-loop-variable l =
    l.nodes.items ++ variables_from l.function l.var (drop l._variable-index l.vars) ≡ l.fn.nodes.items ++ variables_from l.fn.function 0 l.fn.vars
