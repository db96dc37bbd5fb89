use Rattle.std.proofs.Common.{◌≡◌, ◌++◌, drop, length}
use Rattle.check_programs.specs.Functions as is
use Rattle.check_programs.proofs.entries.params_of.Given as goal

abbrev pub invariant-loop-ty : goal.invariant-loop-ty
invariant-loop-ty l = l.params.items ++ is.params_of l.marks (length l.params.items) (drop l.ty-index l.types) ≡ is.params_of l.fn.marks 0 l.fn.types
