use Rattle.std.proofs.Common.{◌≡◌, drop, false, map}
use Rattle.std.specs.List.{list_all}
use Rattle.pt_core.specs.CodeTree.{view_boot, view_function}
use Rattle.pt_core.specs.WellFormed.{boot_program, function_fits}
use Rattle.boot_rules.proofs.functions.functions_fit.Given as goal

abbrev pub invariant-loop-function : goal.invariant-loop-function
invariant-loop-function l =
    list_all (function_fits false (boot_program (view_boot l.candidate.boot.now))) (map view_function (drop l.function-index l.functions)) ≡ list_all (function_fits false (boot_program (view_boot l.candidate.boot.now))) (map view_function l.fn.functions)
