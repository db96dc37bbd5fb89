-- What is kept of structs: how many integers each has, and to what those of one field come.
use Rattle.std.specs.Prelude.{ℕ, ◌*◌, List, [], ◌∷◌, ◌++◌, Option, Some, None, Bool, if◌then◌else◌, min, sum_by, nat_eq, nat_le, get_or, unwrap_or}
use Rattle.pt_tree.specs.declared.signature.Elem.{Elem}
use Rattle.pt_tree.specs.declared.signature.Elem.TheVariants as e
use Rattle.typed_tree.specs.declared.types.VarTy.{VarTy}
use Rattle.typed_tree.specs.declared.types.VarTy.TheVariants.{Int, Struct, Array, Pointer}
use Rattle.typed_tree.specs.declared.types.Field.{Field}
use Rattle.typed_tree.specs.declared.types.StructInfo.{StructInfo}
use Rattle.boot_rules.specs.declared.shape.Shape.{Shape}

-- cells are counted up to the first number that is too large for an object
abbrev pub counted : ℕ → ℕ
counted n = min n 65_537

-- the shape of a struct that isn't there
abbrev pub no_shape : Shape
no_shape = record { cells = 0; only = None }

abbrev pub shape_at : List Shape → ℕ → Shape
shape_at shapes n = get_or shapes n no_shape

abbrev pub element_cells : List Shape → Elem → ℕ
element_cells shapes (e.Int t) = 1
element_cells shapes (e.Struct n) = (shape_at shapes n).cells

abbrev pub object_cells : List Shape → VarTy → ℕ
object_cells shapes (Int t) = 1
object_cells shapes (Struct n) = (shape_at shapes n).cells
object_cells shapes (Array elem count) = counted (count * element_cells shapes elem)
object_cells shapes (Pointer elem fixed) = 0

abbrev pub fields_cells : List Shape → List Field → ℕ
fields_cells shapes fields = counted (sum_by (λ f. object_cells shapes f.ty) fields)

abbrev pub is_small_by : List Shape → VarTy → Bool
is_small_by shapes ty = nat_le (object_cells shapes ty) 65_536

-- the type of the same integers past structs of one field
abbrev pub whole_struct : List Shape → ℕ → VarTy
whole_struct shapes n = unwrap_or (shape_at shapes n).only (Struct n)

-- an array of one element is as its element
abbrev pub whole_array : List Shape → Elem → ℕ → VarTy
whole_array shapes (e.Int t) count = Array (e.Int t) count
whole_array shapes (e.Struct n) count = if nat_eq count 1 then whole_struct shapes n else Array (e.Struct n) count

abbrev pub whole : List Shape → VarTy → VarTy
whole shapes (Int t) = Int t
whole shapes (Struct n) = whole_struct shapes n
whole shapes (Array elem count) = whole_array shapes elem count
whole shapes (Pointer elem fixed) = Pointer elem fixed

-- what fields come to where there is one
abbrev pub only_of : List Shape → List Field → Option VarTy
only_of shapes [] = None
only_of shapes (f ∷ []) = Some (whole shapes f.ty)
only_of shapes (f ∷ (g ∷ rest)) = None

abbrev pub shape_of : List Shape → List Field → Shape
shape_of shapes fields = record { cells = fields_cells shapes fields; only = only_of shapes fields }

-- the shapes of structs behind those of the structs before
abbrev pub shapes_from : List Shape → List StructInfo → List Shape
shapes_from shapes [] = shapes
shapes_from shapes (s ∷ rest) = shapes_from (shapes ++ shape_of shapes s.fields ∷ []) rest
