-- What the cells of an object have to do with its leaves: as many as its size, each under a leaf of its own;
-- a field's cells lie under the field's leaves; the elements of an array lie alike.
use Rattle.std.specs.Prelude.{◌≡◌, ◌≤◌, ◌<◌, ℕ, ◌+◌, ◌*◌, true, List, length}
use Rattle.pt_tree.specs.declared.signature.Elem.{Elem}
use Rattle.typed_tree.specs.declared.types.VarTy.{VarTy}
use Rattle.typed_tree.specs.declared.types.VarTy.TheVariants.{Struct, Array}
use Rattle.typed_tree.specs.declared.types.StructInfo.{StructInfo}
use Rattle.typed_tree.specs.Sizes.{sizes_of, elem_cells, cells_by}
use Rattle.typed_tree.specs.TypeTests.{type_of_elem}
use Rattle.typed_tree.specs.WellFormed.{is_plain_type, structs_sound}
use Rattle.pt_core.specs.Types.{field_type}
use Rattle.pt_core.specs.Values.{offset_in}
use Rattle.pt_core.specs.WellFormedExpression.{is_field}
use Rattle.sides.specs.Leaves.{leaf_count, field_start}
use Rattle.handle_classes_law.specs.ObjectsCells.{cell_leaves, leaf_under}

-- an object has one leaf for each cell
abbrev pub CellsHaveLeaves : Type 0
CellsHaveLeaves = (structs : List StructInfo) (ty : VarTy) → structs_sound structs 0 structs ≡ true → is_plain_type (length structs) ty ≡ true →
    length (cell_leaves structs ty) ≡ cells_by (sizes_of structs) ty

-- which is one of the object's leaves
abbrev pub LeavesAreOwn : Type 0
LeavesAreOwn = (structs : List StructInfo) (ty : VarTy) (n : ℕ) → structs_sound structs 0 structs ≡ true → is_plain_type (length structs) ty ≡ true →
    n < cells_by (sizes_of structs) ty → leaf_under structs ty n < leaf_count structs ty

-- a field's cells, in the struct
abbrev pub FieldsLieSo : Type 0
FieldsLieSo = (structs : List StructInfo) (m k n : ℕ) → structs_sound structs 0 structs ≡ true → is_field structs (Struct m) k ≡ true →
    n < cells_by (sizes_of structs) (field_type structs (Struct m) k) →
    (offset_in structs (Struct m) k + cells_by (sizes_of structs) (field_type structs (Struct m) k) ≤ cells_by (sizes_of structs) (Struct m)) ×
    (leaf_under structs (Struct m) (offset_in structs (Struct m) k + n) ≡ field_start structs m k + leaf_under structs (field_type structs (Struct m) k) n)

-- elements
abbrev pub ElementsLieAlike : Type 0
ElementsLieAlike = (structs : List StructInfo) (elem : Elem) (count i n : ℕ) → structs_sound structs 0 structs ≡ true → is_plain_type (length structs) (Array elem count) ≡ true →
    i < count → n < elem_cells (sizes_of structs) elem →
    leaf_under structs (Array elem count) (i * elem_cells (sizes_of structs) elem + n) ≡ leaf_under structs (type_of_elem elem) n
