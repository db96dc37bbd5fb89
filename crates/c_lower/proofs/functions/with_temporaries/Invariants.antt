use Rattle.std.proofs.Common.{◌≡◌, ◌++◌, drop}
use Rattle.lowering.specs.FunctionParts.{variables_of}
use Rattle.c_lower.proofs.functions.with_temporaries.Given as goal

-- the copies so far, and then the others, are all of them
abbrev pub invariant-loop-variable : goal.invariant-loop-variable
invariant-loop-variable l = l.all.items ++ drop l.variable-index l.variables ≡ l.variables

abbrev pub invariant-loop-temporary : goal.invariant-loop-temporary
invariant-loop-temporary l = l.all.items ++ variables_of (drop l.temporary-index l.temps) ≡ l.variables ++ variables_of l.temps
