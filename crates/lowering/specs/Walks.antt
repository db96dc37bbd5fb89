-- The code's walk over the integers of an object: what is left of it, and how much. No definition of the
-- lowering speaks of this.
use Rattle.std.specs.Prelude.{◌≡◌, ℕ, zero, suc, ◌+◌, ◌<◌, Bool, true, false, ◌||◌, not, List, [], ◌∷◌, ◌++◌, Option, Some, None, map, take, drop, length, get_or, replicate, nat_lt, is_some, ◌==◌, if◌then◌else◌}
use Rattle.pt_tree.specs.declared.signature.Elem.{Elem}
use Rattle.pt_tree.specs.declared.signature.Elem.TheVariants as e
use Rattle.typed_tree.specs.declared.types.VarTy.{VarTy}
use Rattle.typed_tree.specs.declared.types.VarTy.TheVariants.{Int, Struct, Array, Pointer}
use Rattle.typed_tree.specs.declared.types.Field.{Field}
use Rattle.typed_tree.specs.declared.types.StructInfo.{StructInfo}
use Rattle.typed_tree.specs.TypeTests.{type_of_elem}
use Rattle.typed_tree.specs.Sizes.{fields_of}
use Rattle.lowering.specs.declared.leaves.Object.{Object}
use Rattle.lowering.specs.declared.leaves.Level.{Level}
use Rattle.lowering.specs.declared.leaves.Walk.{Walk}
use Rattle.lowering.specs.Leaves.{Step, to_field, to_element, Ways, begun_with, object_ways, ways_from}

abbrev pub is_leaf : VarTy → Bool
is_leaf (Int t) = true
is_leaf (Struct n) = false
is_leaf (Array elem count) = false
is_leaf (Pointer elem fixed) = true

-- the parts of an object, in order
abbrev pub field_object : ℕ → Field → Object
field_object n f = record { ty = f.ty; bound = n }

abbrev pub parts_by : List StructInfo → ℕ → VarTy → List Object
parts_by structs bound (Int t) = []
parts_by structs bound (Struct n) = if nat_lt n bound then map (field_object n) (fields_of structs n) else []
parts_by structs bound (Array elem count) = replicate count (record { ty = type_of_elem elem; bound = bound })
parts_by structs bound (Pointer elem fixed) = []

abbrev pub parts_of : List StructInfo → Object → List Object
parts_of structs q = parts_by structs q.bound q.ty

abbrev pub step_to : VarTy → ℕ → Step
step_to (Array elem count) k = to_element k
step_to ty k = to_field k

abbrev pub step_at : Level → Step
step_at l = step_to l.whole.ty l.at

-- the way to where the walk is
abbrev pub way_of : List Level → List Step
way_of levels = map step_at levels

-- ---- what is left

abbrev pub ways_below : List StructInfo → ℕ → List Ways
ways_below structs bound = ways_from [] (take bound structs)

abbrev pub ways_in : List StructInfo → Object → Ways
ways_in structs q = object_ways (ways_below structs q.bound) q.ty

-- in these parts of an object, from number k on
abbrev pub ways_from_part : List StructInfo → VarTy → ℕ → List Object → Ways
ways_from_part structs ty k [] = []
ways_from_part structs ty k (q ∷ qs) = begun_with (step_to ty k) (ways_in structs q) ++ ways_from_part structs ty (k + 1) qs

abbrev pub ways_behind : List StructInfo → Level → Ways
ways_behind structs l = ways_from_part structs l.whole.ty (l.at + 1) (drop (l.at + 1) (parts_of structs l.whole))

abbrev pub ways_here : List StructInfo → Option Object → Ways
ways_here structs None = []
ways_here structs (Some q) = ways_in structs q

-- first those in the part where the last object is, and then those behind, inside out
abbrev pub ways_around : List StructInfo → List Level → Ways → Ways
ways_around structs [] inner = inner
ways_around structs (l ∷ ls) inner = begun_with (step_at l) (ways_around structs ls inner) ++ ways_behind structs l

abbrev pub ways_left : List StructInfo → Walk → Ways
ways_left structs w = ways_around structs w.levels.items (ways_here structs w.here)

-- ---- how many steps it takes at most

-- by numbers for each struct: one for each object, and one for each part
abbrev pub weight_of_elem : List ℕ → Elem → ℕ
weight_of_elem known (e.Int t) = 2
weight_of_elem known (e.Struct n) = get_or known n 2

abbrev pub weight_of_elements : ℕ → ℕ → ℕ
weight_of_elements zero each = 0
weight_of_elements (suc more) each = 1 + each + weight_of_elements more each

abbrev pub weight_by : List ℕ → VarTy → ℕ
weight_by known (Int t) = 2
weight_by known (Struct n) = get_or known n 2
weight_by known (Array elem count) = 2 + weight_of_elements count (weight_of_elem known elem)
weight_by known (Pointer elem fixed) = 2

abbrev pub weight_of_fields : List ℕ → List Field → ℕ
weight_of_fields known [] = 2
weight_of_fields known (f ∷ fs) = 1 + weight_by known f.ty + weight_of_fields known fs

abbrev pub weights_from : List ℕ → List StructInfo → List ℕ
weights_from known [] = known
weights_from known (s ∷ rest) = weights_from (known ++ weight_of_fields known s.fields ∷ []) rest

abbrev pub weight : List StructInfo → Object → ℕ
weight structs q = weight_by (weights_from [] (take q.bound structs)) q.ty

abbrev pub weight_of_parts : List StructInfo → List Object → ℕ
weight_of_parts structs [] = 0
weight_of_parts structs (q ∷ qs) = 1 + weight structs q + weight_of_parts structs qs

abbrev pub weight_here : List StructInfo → Option Object → ℕ
weight_here structs None = 0
weight_here structs (Some q) = weight structs q

abbrev pub weight_around : List StructInfo → List Level → ℕ
weight_around structs [] = 0
weight_around structs (l ∷ ls) = 1 + weight_of_parts structs (drop (l.at + 1) (parts_of structs l.whole)) + weight_around structs ls

abbrev pub weight_left : List StructInfo → Walk → ℕ
weight_left structs w = weight_around structs w.levels.items + weight_here structs w.here

-- ---- steps

-- whether something is left
abbrev pub goes_on : Walk → Bool
goes_on w = is_some w.here || not (length w.levels.items == 0)

-- the same is left, and less of a walk
pub record Moves (structs : List StructInfo) (before after : Walk) : Type 0 where
  pub same : ways_left structs before ≡ ways_left structs after
  pub less : weight_left structs after < weight_left structs before

-- the walk has come to the end of the first way that was left
pub record Arrives (structs : List StructInfo) (before after : Walk) : Type 0 where
  pub first : ways_left structs before ≡ way_of after.levels.items ∷ ways_left structs after

-- after a step, which led to an integer where `found` holds
abbrev pub Stepped : List StructInfo → Bool → Walk → Walk → Type 0
Stepped structs true before after = Arrives structs before after
Stepped structs false before after = Moves structs before after

-- at the next integer, where `found` holds; else there was none left
abbrev pub Comes : List StructInfo → Bool → Walk → Walk → Type 0
Comes structs true before after = Arrives structs before after
Comes structs false before after = ways_left structs before ≡ []
