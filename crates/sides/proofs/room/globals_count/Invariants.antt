use Rattle.std.proofs.Common.{◌≡◌, ◌+◌, drop, map}
use Rattle.sides.specs.Leaves.{leaf_count}
use Rattle.sides.specs.Objects.{types_count}
use Rattle.sides.proofs.room.globals_count.Given as goal

abbrev pub invariant-loop-global : goal.invariant-loop-global
invariant-loop-global l = l.all + types_count (leaf_count l.structs) (map (λ g. g.var.ty) (drop l.global-index l.globals)) ≡ types_count (leaf_count l.fn.structs) (map (λ g. g.var.ty) l.fn.globals)
