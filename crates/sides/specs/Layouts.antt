-- A layout, as code keeps it: where the slots of globals, of each function's variables and of results begin.
use Rattle.std.specs.Prelude.{◌≡◌, ℕ, ◌+◌, List, [], ◌∷◌}
use Rattle.typed_tree.specs.declared.types.VarTy.{VarTy}
use Rattle.typed_tree.specs.TypedTree.{FunctionTree, TypedTree}
use Rattle.sides.specs.declared.layout.Layout.{Layout}
use Rattle.sides.specs.declared.objects.Object.{Object}
use Rattle.sides.specs.Leaves.{leaf_count}
use Rattle.sides.specs.LeafTables.{IsLeafTable}
use Rattle.sides.specs.Objects.{types_count, objects_from, variable_types, global_types, global_objects, result_start}

-- the variables of each of these functions, the first of them from this slot on
abbrev pub functions_objects : (VarTy → ℕ) → ℕ → List FunctionTree → List (List Object)
functions_objects count start [] = []
functions_objects count start (f ∷ fs) =
    objects_from count start (variable_types f) ∷ functions_objects count (start + types_count count (variable_types f)) fs

-- the variables of each function of a program
abbrev pub function_objects : TypedTree → List (List Object)
function_objects t = functions_objects (leaf_count t.structs) (types_count (leaf_count t.structs) (global_types t)) t.functions

pub record IsLayout (t : TypedTree) (l : Layout) : Type 0 where
  pub table : IsLeafTable t.structs l.table
  pub globals : l.globals.items ≡ global_objects t
  pub variables : l.variables.items ≡ function_objects t
  pub results : l.results ≡ result_start t
