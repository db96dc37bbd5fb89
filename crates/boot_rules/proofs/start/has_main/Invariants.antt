use Rattle.std.proofs.Common.{◌≡◌, length, map}
use Rattle.std.specs.List.{filter}
use Rattle.pt_core.specs.CodeTree.{FunctionTree, view_boot, view_function}
use Rattle.pt_core.specs.WellFormed.{boot_program, has_main, is_main_by, is_only_start, signature_at}
use Rattle.boot_rules.proofs.start.has_main.Given as goal

abbrev pub invariant-loop-rest : goal.invariant-loop-rest
invariant-loop-rest l =
    let p = boot_program (view_boot l.candidate.boot.now) in
    is_only_start p (filter (λ (f : FunctionTree). is_main_by (signature_at p f.id)) (map view_function l.rest)) ≡ has_main p

abbrev pub decreases-loop-rest : goal.decreases-loop-rest
decreases-loop-rest l = length l.rest
