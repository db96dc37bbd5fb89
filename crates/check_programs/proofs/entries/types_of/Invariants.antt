use Rattle.std.proofs.Common.{◌≡◌, ◌++◌, drop, map}
use Rattle.check_programs.proofs.entries.types_of.Given as goal

abbrev pub invariant-loop-variable : goal.invariant-loop-variable
invariant-loop-variable l = l.types.items ++ map (λ v. v.ty) (drop l.variable-index l.variables) ≡ map (λ v. v.ty) l.fn.variables
