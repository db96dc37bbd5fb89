use Rattle.std.proofs.Common.{◌≡◌, drop, nat_lt}
use Rattle.std.specs.Prelude.{sum_by}
use Rattle.check_declarations.specs.Cells.{cells_of}
use Rattle.check_programs.specs.Functions as is
use Rattle.check_programs.proofs.functions.are_too_large.Given as goal

abbrev pub invariant-loop-variable : goal.invariant-loop-variable
invariant-loop-variable l = nat_lt l.room (sum_by (λ v. cells_of l.structs v.ty) (drop l.variable-index l.variables)) ≡ is.are_too_large l.fn.structs l.fn.variables
