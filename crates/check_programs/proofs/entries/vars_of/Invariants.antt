use Rattle.std.proofs.Common.{◌≡◌, ◌++◌, drop, map}
use Rattle.check_programs.specs.Functions as is
use Rattle.check_programs.proofs.entries.vars_of.Given as goal

abbrev pub invariant-loop-variable : goal.invariant-loop-variable
invariant-loop-variable l = l.vars.items ++ map is.var_of (drop l.variable-index l.variables) ≡ map is.var_of l.fn.variables
