use Rattle.std.proofs.Common.{◌≡◌, drop, map}
use Rattle.std.specs.List.{flat_map, list_all}
use Rattle.pt_core.specs.CodeTree.{FunctionTree, view_boot, view_function}
use Rattle.pt_core.specs.WellFormedStatement.{callees_of}
use Rattle.boot_rules.specs.Tests.{call_fits}
use Rattle.boot_rules.proofs.calls.calls_fit.Given as goal

abbrev pub invariant-loop-function : goal.invariant-loop-function
invariant-loop-function l =
    list_all (call_fits (view_boot l.candidate.boot.now)) (flat_map (λ (f : FunctionTree). callees_of f.body) (map view_function (drop l.function-index l.functions)))
    ≡ list_all (call_fits (view_boot l.candidate.boot.now)) (flat_map (λ (f : FunctionTree). callees_of f.body) (map view_function l.fn.functions))
