use Rattle.std.proofs.Common.{◌≡◌, drop, map}
use Rattle.std.specs.List.{list_any}
use Rattle.pt_core.specs.CodeTree.{FunctionTree, view_boot, view_function}
use Rattle.pt_core.specs.WellFormed.{boot_program, is_main_by, signature_at}
use Rattle.boot_rules.proofs.start.any_main.Given as goal

abbrev pub invariant-loop-function : goal.invariant-loop-function
invariant-loop-function l =
    let p = boot_program (view_boot l.candidate.boot.now) in
    list_any (λ (f : FunctionTree). is_main_by (signature_at p f.id)) (map view_function (drop l.function-index l.functions)) ≡ list_any (λ (f : FunctionTree). is_main_by (signature_at p f.id)) (map view_function l.fn.functions)
