use Rattle.std.proofs.Common.{◌≡◌, ◌++◌, drop, length, map}
use Rattle.sides.specs.Leaves.{leaf_count}
use Rattle.sides.specs.Objects.{objects_from}
use Rattle.sides.specs.Slots.{globals_slots}
use Rattle.sides.proofs.objects.add_globals.Given as goal

abbrev pub invariant-loop-global : goal.invariant-loop-global
invariant-loop-global l = record {
  objects : l.objects.items ++ objects_from (leaf_count l.structs) (length l.slots.items) (map (λ g. g.var.ty) (drop l.global-index l.globals))
      ≡ objects_from (leaf_count l.fn.structs) (length l.fn.slots.items) (map (λ g. g.var.ty) l.fn.globals);
  slots : l.slots.items ++ globals_slots l.structs l.number (drop l.global-index l.globals) ≡ l.fn.slots.items ++ globals_slots l.fn.structs 0 l.fn.globals;
}
