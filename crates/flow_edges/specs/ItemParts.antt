-- What is left of an object whose items are being found, as code keeps it: the last part of the list comes first.
use Rattle.std.specs.Prelude.{ℕ, List, [], ◌∷◌, ◌++◌, drop}
use Rattle.sides.specs.Leaves.{leaf_count}
use Rattle.typed_tree.specs.declared.types.StructInfo.{StructInfo}
use Rattle.typed_tree.specs.Cells.{repeated}
use Rattle.typed_tree.specs.Sizes.{fields_of}
use Rattle.flow_edges.specs.declared.items.Part.{Part}
use Rattle.flow_edges.specs.declared.items.Part.TheVariants.{Object, Fields, Again}
use Rattle.flow_edges.specs.Items.{fields_items, struct_items, type_items}

-- the slots after those of a part
abbrev pub added : List StructInfo → Part → List ℕ → List ℕ
added structs (Object ty start depth) slots = slots ++ type_items (struct_items structs depth) start ty
added structs (Fields n next start depth) slots = slots ++ fields_items (leaf_count structs) (struct_items structs depth) start (drop next (fields_of structs n))
added structs (Again from more) slots = slots ++ repeated more (drop from slots)

-- the slots after those of all parts
abbrev pub finished : List StructInfo → List Part → List ℕ → List ℕ
finished structs [] slots = slots
finished structs (p ∷ ps) slots = added structs p (finished structs ps slots)
