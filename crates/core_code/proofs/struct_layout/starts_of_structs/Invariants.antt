use Rattle.std.proofs.Common.{◌≡◌, ◌++◌, drop, map}
use Rattle.core_code.specs.Starts.{starts_from}
use Rattle.core_code.proofs.struct_layout.starts_of_structs.Given as goal

abbrev pub invariant-loop-info : goal.invariant-loop-info
invariant-loop-info l = l.starts.items ++ map (λ s. starts_from l.sizes 0 s.fields) (drop l.info-index l.structs) ≡ map (λ s. starts_from l.fn.sizes 0 s.fields) l.fn.structs
