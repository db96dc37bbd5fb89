use Rattle.std.proofs.Common.{◌≡◌, drop, nat_eq}
use Rattle.std.specs.Map.{lookup}
use Rattle.core_code.specs.Globals.{types_of}
use Rattle.core_code.proofs.globals.walked.Given as goal

abbrev pub invariant-loop-global : goal.invariant-loop-global
invariant-loop-global l =
    lookup (nat_eq l.g.0) (types_of (drop l.global-index l.globals)) ≡ lookup (nat_eq l.g.0) (types_of l.fn.globals)
