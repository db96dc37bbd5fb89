use Rattle.std.proofs.Common.{◌≡◌, ◌++◌, drop, map}
use Rattle.sides.specs.Leaves.{fields_leaves}
use Rattle.sides.specs.LeafTables.{leaves_below, slot_behind}
use Rattle.sides.proofs.leaves.+add_behind.Given as goal

abbrev pub decreases-add_behind : goal.decreases-add_behind
decreases-add_behind l = l.bound

abbrev pub invariant-loop-field : goal.invariant-loop-field
invariant-loop-field l = record {
  path : l.path.items ≡ l.fn.path.items;
  slots : l.slots.items ++ map (slot_behind l.owner l.fn.path.items l.marked) (fields_leaves (leaves_below l.structs l.inner) l.number (drop l.field-index l.fields))
      ≡ l.fn.slots.items ++ map (slot_behind l.owner l.fn.path.items l.marked) (fields_leaves (leaves_below l.structs l.inner) 0 l.fields);
}
