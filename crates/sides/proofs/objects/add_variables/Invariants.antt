use Rattle.std.proofs.Common.{◌≡◌, ◌++◌, drop, length, map}
use Rattle.sides.specs.Leaves.{leaf_count}
use Rattle.sides.specs.Objects.{objects_from}
use Rattle.sides.specs.Slots.{variables_slots}
use Rattle.sides.proofs.objects.add_variables.Given as goal

abbrev pub invariant-loop-var : goal.invariant-loop-var
invariant-loop-var l = record {
  objects : l.objects.items ++ objects_from (leaf_count l.structs) (length l.slots.items) (map (λ x. x.ty) (drop l.var-index l.vars))
      ≡ objects_from (leaf_count l.fn.structs) (length l.fn.slots.items) (map (λ x. x.ty) l.fn.vars);
  slots : l.slots.items ++ variables_slots l.structs l.function l.number (drop l.var-index l.vars) ≡ l.fn.slots.items ++ variables_slots l.fn.structs l.fn.function 0 l.fn.vars;
}
