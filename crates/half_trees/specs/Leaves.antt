-- The places of an object's integers in declaration order, each as what stands behind the object.
use Rattle.std.specs.Prelude.{ℕ, suc, List, [], ◌∷◌, ◌++◌, map, slice_get, unwrap_or}
use Rattle.std.specs.List.{flat_map, range_with_len}
use Rattle.pt_base.specs.declared.int_type.IntType.TheVariants as i
use Rattle.pt_tree.specs.declared.signature.Elem.{Elem}
use Rattle.pt_tree.specs.declared.signature.Elem.TheVariants as e
use Rattle.pt_tree.specs.ExpressionTree.{PostfixTree, index, dot}
use Rattle.typed_tree.specs.declared.types.Field.{Field}
use Rattle.typed_tree.specs.declared.types.StructInfo.{StructInfo}
use Rattle.typed_tree.specs.declared.types.VarTy.{VarTy}
use Rattle.typed_tree.specs.declared.types.VarTy.TheVariants.{Int, Struct, Array, Pointer}
use Rattle.half_trees.specs.Names.{nowhere, word, field_by}
use Rattle.half_trees.specs.Expressions.{number}

-- what leads from an object to one of its integers
abbrev pub Leaf : Type 0
Leaf = List PostfixTree

-- these leaves of a part, from the whole
abbrev pub behind : PostfixTree → List Leaf → List Leaf
behind p leaves = map (λ leaf. p ∷ leaf) leaves

abbrev pub element : ℕ → PostfixTree
element n = index nowhere (number i.Int n)

-- the leaves of an element, by those of each struct; a struct that isn't there has none
abbrev pub element_leaves : List (List Leaf) → Elem → List Leaf
element_leaves known (e.Int t) = [] ∷ []
element_leaves known (e.Struct n) = unwrap_or (slice_get known n) []

-- the leaves of an object, by those of each struct
abbrev pub object_leaves : List (List Leaf) → VarTy → List Leaf
object_leaves known (Int t) = [] ∷ []
object_leaves known (Struct n) = unwrap_or (slice_get known n) []
object_leaves known (Array elem count) = flat_map (λ n. behind (element n) (element_leaves known elem)) (range_with_len 0 count)
object_leaves known (Pointer elem fixed) = []

-- the leaves of the fields from this number on, of all that a struct has
abbrev pub field_leaves : List (List Leaf) → List Field → ℕ → List Field → List Leaf
field_leaves known all k [] = []
field_leaves known all k (f ∷ rest) = behind (dot nowhere (word (field_by all k))) (object_leaves known f.ty) ++ field_leaves known all (suc k) rest

-- the leaves of a struct, by those of the structs before it
abbrev pub struct_leaves : List (List Leaf) → StructInfo → List Leaf
struct_leaves known s = field_leaves known s.fields 0 s.fields

-- the leaves of each struct, behind those of the structs before
abbrev pub leaves_from : List (List Leaf) → List StructInfo → List (List Leaf)
leaves_from known [] = known
leaves_from known (s ∷ rest) = leaves_from (known ++ struct_leaves known s ∷ []) rest

-- the integers of an object; a pointer has none
unfoldable pub leaves_of : List StructInfo → VarTy → List Leaf
leaves_of structs ty = object_leaves (leaves_from [] structs) ty
