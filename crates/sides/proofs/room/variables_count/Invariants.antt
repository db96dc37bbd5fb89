use Rattle.std.proofs.Common.{◌≡◌, ◌+◌, drop, map}
use Rattle.sides.specs.Leaves.{leaf_count}
use Rattle.sides.specs.Objects.{types_count}
use Rattle.sides.proofs.room.variables_count.Given as goal

abbrev pub invariant-loop-var : goal.invariant-loop-var
invariant-loop-var l = l.all + types_count (leaf_count l.structs) (map (λ x. x.ty) (drop l.var-index l.vars)) ≡ types_count (leaf_count l.fn.structs) (map (λ x. x.ty) l.fn.vars)
