-- The slots of a program: for each global, then for each variable, function by function, the leaves of
-- the object, and then one for what each function returns. A slot's number is its place in this list.
use Rattle.std.specs.Prelude.{ℕ, suc, List, [], ◌∷◌, ◌++◌, false, map, slice_index_or}
use Rattle.typed_tree.specs.declared.types.StructInfo.{StructInfo}
use Rattle.typed_tree.specs.declared.variable.Var.{Var}
use Rattle.typed_tree.specs.declared.variable.TypedGlobal.{TypedGlobal}
use Rattle.typed_tree.specs.TypedTree.{FunctionTree, TypedTree}
use Rattle.sides.specs.declared.slots.Owner.{Owner}
use Rattle.sides.specs.declared.slots.Owner.TheVariants.{Variable, Global, Result}
use Rattle.sides.specs.declared.slots.SlotInfo.{SlotInfo}
use Rattle.sides.specs.Leaves.{Leaf, leaves_of}

-- a leaf of what this owns
abbrev pub slot_of : Owner → Leaf → SlotInfo
slot_of owner leaf = record { owner = owner; path = leaf.path; marked = leaf.marked }

-- the slots of globals, the first of which has the number g
abbrev pub globals_slots : List StructInfo → ℕ → List TypedGlobal → List SlotInfo
globals_slots structs g [] = []
globals_slots structs g (x ∷ xs) = map (slot_of (Global (record { 0 = g }))) (leaves_of structs x.var.ty) ++ globals_slots structs (suc g) xs

-- the slots of variables of the function f, the first of which has the number v
abbrev pub variables_slots : List StructInfo → ℕ → ℕ → List Var → List SlotInfo
variables_slots structs f v [] = []
variables_slots structs f v (x ∷ xs) =
    map (slot_of (Variable (record { 0 = f }) (record { 0 = v }))) (leaves_of structs x.ty) ++ variables_slots structs f (suc v) xs

-- the slots of the variables of functions, the first of which has the number f
abbrev pub functions_slots : List StructInfo → ℕ → List FunctionTree → List SlotInfo
functions_slots structs f [] = []
functions_slots structs f (x ∷ xs) = variables_slots structs f 0 x.vars ++ functions_slots structs (suc f) xs

-- what functions return, the first of which has the number f; one that returns nothing has its slot too,
-- which no value ever comes to
abbrev pub results_slots : ℕ → List FunctionTree → List SlotInfo
results_slots f [] = []
results_slots f (x ∷ xs) = record { owner = Result (record { 0 = f }); path = []; marked = false } ∷ results_slots (suc f) xs

unfoldable pub slots_of : TypedTree → List SlotInfo
slots_of t = globals_slots t.structs 0 t.globals ++ (functions_slots t.structs 0 t.functions ++ results_slots 0 t.functions)

abbrev pub no_slot : SlotInfo
no_slot = record { owner = Result (record { 0 = 0 }); path = []; marked = false }

abbrev pub slot_at : TypedTree → ℕ → SlotInfo
slot_at t s = slice_index_or (slots_of t) s no_slot
