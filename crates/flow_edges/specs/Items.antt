-- Where the items of a brace list go (C99 6.7.8p17 to p20): the slots of an object's integers, one after the
-- other. The elements of an array have other integers, but the same slots.
use Rattle.std.specs.Prelude.{ℕ, zero, suc, ◌+◌, List, [], ◌∷◌, ◌++◌, length}
use Rattle.pt_tree.specs.declared.signature.Elem.{Elem}
use Rattle.pt_tree.specs.declared.signature.Elem.TheVariants as e
use Rattle.sides.specs.declared.objects.Object.{Object}
use Rattle.sides.specs.Leaves.{leaf_count}
use Rattle.typed_tree.specs.declared.types.Field.{Field}
use Rattle.typed_tree.specs.declared.types.StructInfo.{StructInfo}
use Rattle.typed_tree.specs.declared.types.VarTy.{VarTy}
use Rattle.typed_tree.specs.declared.types.VarTy.TheVariants.{Int, Struct, Array, Pointer}
use Rattle.typed_tree.specs.Cells.{repeated}
use Rattle.typed_tree.specs.Sizes.{fields_of}

-- an element that begins at this slot, by the structs that do
abbrev pub elem_items : (ℕ → ℕ → List ℕ) → ℕ → Elem → List ℕ
elem_items within start (e.Int t) = start ∷ []
elem_items within start (e.Struct n) = within start n

-- an object; a pointer is one item
abbrev pub type_items : (ℕ → ℕ → List ℕ) → ℕ → VarTy → List ℕ
type_items within start (Int t) = start ∷ []
type_items within start (Struct n) = within start n
type_items within start (Array elem count) = repeated count (elem_items within start elem)
type_items within start (Pointer elem fixed) = start ∷ []

-- fields, each behind those before it, where types have so many leaves
abbrev pub fields_items : (VarTy → ℕ) → (ℕ → ℕ → List ℕ) → ℕ → List Field → List ℕ
fields_items count within start [] = []
fields_items count within start (f ∷ fs) = type_items within start f.ty ++ fields_items count within (start + count f.ty) fs

-- the struct n, in which structs are nested at most so deep
abbrev pub struct_items : List StructInfo → ℕ → ℕ → ℕ → List ℕ
struct_items structs zero start n = []
struct_items structs (suc depth) start n = fields_items (leaf_count structs) (struct_items structs depth) start (fields_of structs n)

-- the slots of an object's integers; structs are nested at most as deep as there are structs
abbrev pub items_of : List StructInfo → Object → List ℕ
items_of structs x = type_items (struct_items structs (length structs)) x.start x.ty
