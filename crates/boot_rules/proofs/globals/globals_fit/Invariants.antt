use Rattle.std.proofs.Common.{◌≡◌, drop, map}
use Rattle.std.specs.List.{list_all}
use Rattle.pt_core.specs.CodeTree.{view_global}
use Rattle.pt_core.specs.WellFormed.{global_fits}
use Rattle.boot_rules.proofs.globals.globals_fit.Given as goal

abbrev pub invariant-loop-global : goal.invariant-loop-global
invariant-loop-global l =
    list_all (global_fits l.candidate.boot.now.structs) (map view_global (drop l.global-index l.globals)) ≡ list_all (global_fits l.candidate.boot.now.structs) (map view_global l.fn.globals)
