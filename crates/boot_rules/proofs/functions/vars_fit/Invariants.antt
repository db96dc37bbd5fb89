use Rattle.std.proofs.Common.{◌≡◌, drop}
use Rattle.std.specs.List.{list_all}
use Rattle.pt_core.specs.WellFormed.{variable_fits}
use Rattle.boot_rules.proofs.functions.vars_fit.Given as goal

abbrev pub invariant-loop-var : goal.invariant-loop-var
invariant-loop-var l = list_all (variable_fits l.candidate.boot.now.structs) (drop l.var-index l.vars) ≡ list_all (variable_fits l.candidate.boot.now.structs) l.fn.vars
