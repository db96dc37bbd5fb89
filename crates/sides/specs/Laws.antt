-- Where the slots of objects are.
use Rattle.std.specs.Prelude.{◌≡◌, ◌<◌, ℕ, ◌+◌, List, Some, length, slice_get, slice_index_or}
use Rattle.typed_tree.specs.TypedTree.{TypedTree}
use Rattle.sides.specs.declared.objects.Object.{Object}
use Rattle.sides.specs.declared.slots.Owner.{Owner}
use Rattle.sides.specs.declared.slots.Owner.TheVariants.{Variable, Global, Result}
use Rattle.sides.specs.declared.slots.SlotInfo.{SlotInfo}
use Rattle.sides.specs.Leaves.{Leaf, whole, leaves_of}
use Rattle.sides.specs.Objects.{global_objects, variable_objects, result_start}
use Rattle.sides.specs.Slots.{slot_of, slots_of, no_slot}

-- from this slot on there are those of these leaves
abbrev pub StandAt : List SlotInfo → Owner → List Leaf → ℕ → Type 0
StandAt slots owner leaves start = (j : ℕ) → j < length leaves → slice_index_or slots (start + j) no_slot ≡ slot_of owner (slice_index_or leaves j whole)

-- the slots of each object of a program are those of its leaves, from its start on
pub record ObjectsStand (t : TypedTree) : Type 0 where
  pub globals : (g : ℕ) (x : Object) → slice_get (global_objects t) g ≡ Some x → StandAt (slots_of t) (Global (record { 0 = g })) (leaves_of t.structs x.ty) x.start
  pub variables : (f v : ℕ) (x : Object) → slice_get (variable_objects t f) v ≡ Some x →
      StandAt (slots_of t) (Variable (record { 0 = f }) (record { 0 = v })) (leaves_of t.structs x.ty) x.start
  pub results : (f : ℕ) → f < length t.functions → slice_index_or (slots_of t) (result_start t + f) no_slot ≡ slot_of (Result (record { 0 = f })) whole

abbrev pub ObjectsHaveTheirSlots : Type 0
ObjectsHaveTheirSlots = (t : TypedTree) → ObjectsStand t
