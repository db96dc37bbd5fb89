-- Two programs, on which the definitions are tried by computing.
use Rattle.std.proofs.Common.{refl}
use Rattle.sides.specs.Slots.{slots_of}
use Rattle.std.specs.Prelude.{◌≡◌, ℕ, Bool, true, false, List, [], ◌∷◌, Option, Some, None, codes, get_or}
use Rattle.pt_base.specs.declared.int_type.IntType.{IntType}
use Rattle.pt_base.specs.declared.int_type.IntType.TheVariants as i
use Rattle.pt_tree.specs.declared.signature.Param.{Param}
use Rattle.pt_tree.specs.declared.signature.ParamKind.TheVariants as k
use Rattle.pt_tree.specs.declared.signature.Elem.TheVariants as el
use Rattle.typed_tree.specs.declared.types.VarTy.{VarTy}
use Rattle.typed_tree.specs.declared.types.VarTy.TheVariants as ty
use Rattle.typed_tree.specs.declared.types.StructInfo.{StructInfo}
use Rattle.typed_tree.specs.declared.variable.Var.{Var}
use Rattle.typed_tree.specs.declared.statement.TypedInit.TheVariants as n
use Rattle.typed_tree.specs.ExpressionTree as t
use Rattle.typed_tree.specs.ExpressionTree.{ExprTree, typed, place, no_steps, step_and, expr_trees}
use Rattle.typed_tree.specs.StatementTree.{block, body_trees}
use Rattle.typed_tree.specs.TypedTree.{TypedTree, FunctionTree}
use Rattle.source_meaning.proofs.WorkedTrees.{int, to_int, variable, part, field, constant, value, assign, call, anywhere, does, returns, declares, of_type, host, function, int_param}
use Rattle.pt_core.specs.Calls.{function_in}
use Rattle.lowering.specs.Functions.{core_program}
use Rattle.handle_classes.specs.Classes.{scope_in}
use Rattle.handle_classes_law.proofs.SlavesChecker.{are_fine}
use Rattle.handle_classes_law.specs.SlavesMarked.{slave_world}
use Rattle.sides.specs.Seeds.{sealed_in}
use Rattle.usages.specs.Usages.{usages_in}
use Rattle.sides.specs.Leaves.{leaves_of}

abbrev marked_by : List Bool → ℕ → Bool
marked_by marks s = get_or marks s false

-- ---- struct P { int a; __attribute__((priv)) int b; };
-- __attribute__((priv)) int load(int n); int mix(__attribute__((priv)) int x); __attribute__((priv)) void fill(struct P *p);
-- int main(void) { int k; struct P s; struct P u; k = load(7); k = mix(k); fill(&s); u = s; k = s.b; u.a = 1 ? s.a : 2; return 0; }
-- n 0, x 1, p 2 3, k 4, s 5 6, u 7 8; results 9 to 12

abbrev pair : StructInfo
pair = record { name = codes "P"; fields = record { name = codes "a"; ty = int; marked = false } ∷ record { name = codes "b"; ty = int; marked = true } ∷ [] }

abbrev one_p : VarTy
one_p = ty.Struct 0

abbrev to_p : VarTy
to_p = ty.Pointer (el.Struct 0) false

abbrev host_with : List ℕ → Option IntType → List Param → Bool → List Var → FunctionTree
host_with name result params privileged vars = record (host name result params privileged) { vars = vars }

abbrev to_fill : Param
to_fill = record { kind = k.Ptr (el.Struct 0) false; marked = false; declassify = true }

abbrev read : VarTy → t.PlaceTree → ExprTree
read u p = typed anywhere (Some u) (t.read p)

abbrev first_field : ℕ → t.PlaceTree
first_field x = part x (field 0 no_steps)

abbrev second_field : ℕ → t.PlaceTree
second_field x = part x (field 1 no_steps)

abbrev tried : TypedTree
tried = record {
  structs = pair ∷ [];
  globals = [];
  functions = host_with (codes "load") (Some i.Int) (int_param false ∷ []) true (of_type int ∷ [])
      ∷ host_with (codes "mix") (Some i.Int) (int_param true ∷ []) false (of_type int ∷ [])
      ∷ function (codes "fill") None (to_fill ∷ []) true (of_type to_p ∷ []) (block anywhere (body_trees []))
      ∷ function (codes "main") (Some i.Int) [] false (of_type int ∷ of_type one_p ∷ of_type one_p ∷ [])
      (block anywhere (body_trees (declares 0 n.Nothing ∷ declares 1 n.Nothing ∷ declares 2 n.Nothing ∷ does 0 ∷ does 1 ∷ does 2 ∷ does 3 ∷ does 4 ∷ does 5 ∷ returns 6 ∷ []))) ∷ [];
  exprs = assign int (variable 0) (call anywhere (Some int) 0 (constant 7 ∷ []))
      ∷ assign int (variable 0) (call anywhere (Some int) 1 (value 0 ∷ []))
      ∷ call anywhere None 2 (typed anywhere (Some to_p) (t.address (variable 1)) ∷ [])
      ∷ assign one_p (variable 2) (read one_p (variable 1))
      ∷ assign int (variable 0) (read int (second_field 1))
      ∷ assign int (first_field 2) (typed anywhere (Some int) (t.choice (constant 1) (read int (first_field 1)) (constant 2)))
      ∷ constant 0 ∷ [];
}

abbrev tried_marks : ℕ → Bool
tried_marks = marked_by (false ∷ true ∷ false ∷ true ∷ true ∷ false ∷ true ∷ false ∷ true ∷ true ∷ true ∷ false ∷ false ∷ [])

tried_seals : sealed_in tried (record { 0 = 3 }) ≡ 6 ∷ []
unfolding usages_in leaves_of slots_of
tried_seals = refl

abbrev tried_by : (ℕ → Bool) → Bool
tried_by marks = are_fine (slave_world marks tried) (scope_in (core_program tried) (slave_world marks tried) 3) 3 (function_in (core_program tried) 3).body

tried_fine : tried_by tried_marks ≡ true
unfolding slots_of leaves_of
tried_fine = refl

-- with a slot less they aren't closed, and the code isn't fine
abbrev without_k : ℕ → Bool
without_k = marked_by (false ∷ true ∷ false ∷ true ∷ false ∷ false ∷ true ∷ false ∷ true ∷ true ∷ true ∷ false ∷ false ∷ [])

tried_without : tried_by without_k ≡ false
unfolding slots_of leaves_of
tried_without = refl

abbrev without_field : ℕ → Bool
without_field = marked_by (false ∷ true ∷ false ∷ true ∷ true ∷ false ∷ true ∷ false ∷ false ∷ true ∷ true ∷ false ∷ false ∷ [])

tried_without_field : tried_by without_field ≡ false
unfolding slots_of leaves_of
tried_without_field = refl

-- ---- __attribute__((priv)) int load(int n); void sink(__attribute__((priv)) int x);
-- int main(void) { int k; int a[2]; int *p; int j; k = load(7); a[1] = k; p = a; *p = k; sink(1 ? k : 2); j = (int)k; return 0; }
-- n 0, x 1, k 2, a 3, p 4, j 5; results 6 to 8

abbrev more : TypedTree
more = record {
  structs = [];
  globals = [];
  functions = host_with (codes "load") (Some i.Int) (int_param false ∷ []) true (of_type int ∷ [])
      ∷ host_with (codes "sink") None (int_param true ∷ []) false (of_type int ∷ [])
      ∷ function (codes "main") (Some i.Int) [] false (of_type int ∷ of_type (ty.Array (el.Int i.Int) 2) ∷ of_type to_int ∷ of_type int ∷ [])
      (block anywhere (body_trees (does 0 ∷ does 1 ∷ does 2 ∷ does 3 ∷ does 4 ∷ does 5 ∷ returns 6 ∷ []))) ∷ [];
  exprs = assign int (variable 0) (call anywhere (Some int) 0 (constant 7 ∷ []))
      ∷ assign int (part 1 (step_and (t.item (constant 1) anywhere) no_steps)) (value 0)
      ∷ assign to_int (variable 2) (typed anywhere (Some to_int) (t.decay (variable 1)))
      ∷ assign int (place (t.deref (read to_int (variable 2)) anywhere) no_steps) (value 0)
      ∷ call anywhere None 1 (typed anywhere (Some int) (t.choice (constant 1) (value 0) (constant 2)) ∷ [])
      ∷ assign int (variable 3) (typed anywhere (Some int) (t.convert (value 0)))
      ∷ constant 0 ∷ [];
}

abbrev more_by : List Bool → Bool
more_by marks = are_fine (slave_world (marked_by marks) more) (scope_in (core_program more) (slave_world (marked_by marks) more) 2) 2 (function_in (core_program more) 2).body

more_fine : more_by (false ∷ false ∷ true ∷ true ∷ true ∷ true ∷ true ∷ false ∷ false ∷ []) ≡ true
unfolding slots_of leaves_of
more_fine = refl

-- a pointer that is marked though the array isn't
more_without : more_by (false ∷ false ∷ true ∷ false ∷ true ∷ true ∷ true ∷ false ∷ false ∷ []) ≡ false
unfolding slots_of leaves_of
more_without = refl
