-- The integers of an object one after the other, each as a place: the items of a brace list go there.
use Rattle.std.specs.Prelude.{ℕ, zero, suc, ◌+◌, pos, false, List, [], ◌∷◌, ◌++◌, map, get_or}
use Rattle.pt_base.specs.declared.int_type.IntType.TheVariants as i
use Rattle.pt_base.specs.declared.span.Span.{Span}
use Rattle.pt_tree.specs.declared.signature.Elem.{Elem}
use Rattle.pt_tree.specs.declared.signature.Elem.TheVariants as e
use Rattle.typed_tree.specs.declared.types.VarTy.{VarTy}
use Rattle.typed_tree.specs.declared.types.VarTy.TheVariants.{Int, Struct, Array, Pointer}
use Rattle.typed_tree.specs.declared.types.Field.{Field}
use Rattle.typed_tree.specs.declared.types.StructInfo.{StructInfo}
use Rattle.pt_core.specs.CodeTree.{deref, PlaceTree, place, constant, decay, move}
use Rattle.lowering.specs.Expressions.{place_with_field}

-- a step from an object to a part of it: to a field of a struct, or to an element of an array
pub data Step : Type 0 where
  to_field : ℕ → Step
  to_element : ℕ → Step

-- the ways from an object to its integers
abbrev pub Ways : Type 0
Ways = List (List Step)

abbrev pub begun_with : Step → Ways → Ways
begun_with step ways = map (λ way. step ∷ way) ways

-- to those of elements from this one on
abbrev pub element_ways : ℕ → ℕ → Ways → Ways
element_ways zero k ways = []
element_ways (suc more) k ways = begun_with (to_element k) ways ++ element_ways more (k + 1) ways

abbrev pub elem_ways : List Ways → Elem → Ways
elem_ways known (e.Int t) = [] ∷ []
elem_ways known (e.Struct n) = get_or known n []

-- by the ways in each struct
abbrev pub object_ways : List Ways → VarTy → Ways
object_ways known (Int t) = [] ∷ []
object_ways known (Struct n) = get_or known n []
object_ways known (Array elem count) = element_ways count 0 (elem_ways known elem)
object_ways known (Pointer elem fixed) = [] ∷ []

abbrev pub field_ways : List Ways → ℕ → List Field → Ways
field_ways known k [] = []
field_ways known k (f ∷ fs) = begun_with (to_field k) (object_ways known f.ty) ++ field_ways known (k + 1) fs

-- of each struct, behind those before
abbrev pub ways_from : List Ways → List StructInfo → List Ways
ways_from known [] = known
ways_from known (s ∷ rest) = ways_from (known ++ field_ways known 0 s.fields ∷ []) rest

abbrev pub ways_of : List StructInfo → VarTy → Ways
ways_of structs ty = object_ways (ways_from [] structs) ty

-- the place at the end of a way; the span is that of steps to elements, which never trap
abbrev pub stepped_to : Span → PlaceTree → Step → PlaceTree
stepped_to s p (to_field k) = place_with_field p k
stepped_to s p (to_element k) = place (deref (move (decay p) (constant i.Int (pos k)) false s) s) []

abbrev pub at_end_of : Span → List Step → PlaceTree → PlaceTree
at_end_of s [] p = p
at_end_of s (step ∷ steps) p = at_end_of s steps (stepped_to s p step)

abbrev pub leaf_places : List StructInfo → VarTy → Span → PlaceTree → List PlaceTree
leaf_places structs ty s p = map (λ way. at_end_of s way p) (ways_of structs ty)
