-- The slots of a brace list's items, as code keeps them.
use Rattle.std.specs.Prelude.{◌≡◌, List, Some, take}
use Rattle.sides.specs.declared.objects.Object.{Object}
use Rattle.typed_tree.specs.declared.types.StructInfo.{StructInfo}
use Rattle.flow_edges.specs.declared.kept_items.KeptItems.{KeptItems}
use Rattle.flow_edges.specs.Items.{items_of}

-- they are those of this object
abbrev pub IsFor : KeptItems → Object → Type 0
IsFor kept x = kept.object ≡ Some x

-- of whatever object they are, as many as were wanted are there
abbrev pub AreItems : List StructInfo → KeptItems → Type 0
AreItems structs kept = (x : Object) → IsFor kept x → take kept.wanted kept.slots.items ≡ take kept.wanted (items_of structs x)
