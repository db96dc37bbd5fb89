-- Where the slots of each object begin: behind those of the objects before it.
use Rattle.std.specs.Prelude.{ℕ, ◌+◌, List, [], ◌∷◌, length, map, get_or, slice_get}
use Rattle.std.specs.Option.{option_map_or}
use Rattle.typed_tree.specs.declared.types.VarTy.{VarTy}
use Rattle.typed_tree.specs.TypedTree.{FunctionTree, TypedTree}
use Rattle.sides.specs.declared.objects.Object.{Object}
use Rattle.sides.specs.Leaves.{leaf_count}

-- how many slots objects of these types have together, where types have so many
abbrev pub types_count : (VarTy → ℕ) → List VarTy → ℕ
types_count count [] = 0
types_count count (ty ∷ tys) = count ty + types_count count tys

-- objects of these types, each behind those before it, the first from this slot on
abbrev pub objects_from : (VarTy → ℕ) → ℕ → List VarTy → List Object
objects_from count start [] = []
objects_from count start (ty ∷ tys) = record { ty = ty; start = start } ∷ objects_from count (start + count ty) tys

abbrev pub variable_types : FunctionTree → List VarTy
variable_types f = map (λ x. x.ty) f.vars

abbrev pub global_types : TypedTree → List VarTy
global_types t = map (λ g. g.var.ty) t.globals

-- where the variables of each of these functions begin, the first of them from this slot on
abbrev pub function_starts_from : (VarTy → ℕ) → ℕ → List FunctionTree → List ℕ
function_starts_from count start [] = []
function_starts_from count start (f ∷ fs) = start ∷ function_starts_from count (start + types_count count (variable_types f)) fs

-- how many slots the variables of these functions have together
abbrev pub functions_count : (VarTy → ℕ) → List FunctionTree → ℕ
functions_count count [] = 0
functions_count count (f ∷ fs) = types_count count (variable_types f) + functions_count count fs

abbrev pub global_objects : TypedTree → List Object
global_objects t = objects_from (leaf_count t.structs) 0 (global_types t)

abbrev pub function_starts : TypedTree → List ℕ
function_starts t = function_starts_from (leaf_count t.structs) (types_count (leaf_count t.structs) (global_types t)) t.functions

-- the slot of what the function 0 returns
abbrev pub result_start : TypedTree → ℕ
result_start t = types_count (leaf_count t.structs) (global_types t) + functions_count (leaf_count t.structs) t.functions

-- how many slots a program has: those of its globals, of all variables, and of what functions return
abbrev pub slot_count : TypedTree → ℕ
slot_count t = result_start t + length t.functions

-- the variables of the function with this number; none where there is no such function
abbrev pub variable_objects : TypedTree → ℕ → List Object
variable_objects t f = objects_from (leaf_count t.structs) (get_or (function_starts t) f 0) (option_map_or variable_types (slice_get t.functions f) [])
