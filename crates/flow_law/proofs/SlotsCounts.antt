-- How long the lists of a layout are: as long as those of the program that they are made of.
use Rattle.std.proofs.Common.{◌≡◌, ◌∙◌, ◌<◌, ◌≤◌, ◌+◌, ◌^◌, ℕ, suc, List, [], ◌∷◌, ◌++◌, length, refl, ap, arith, length-append}
use Rattle.std.specs.Prelude.{IsTrue, nat_lt, sum_by}
use Rattle.std.proofs.lemmas.Bool.Decides.{nat_tests}
use Rattle.std.proofs.lemmas.List.{length-map}
use Rattle.std.proofs.lemmas.List.Sums.{sum_by-cons}
use Rattle.typed_tree.specs.declared.types.StructInfo.{StructInfo}
use Rattle.typed_tree.specs.declared.types.VarTy.{VarTy}
use Rattle.typed_tree.specs.declared.variable.TypedGlobal.{TypedGlobal}
use Rattle.typed_tree.specs.Nodes.{nodes_of}
use Rattle.typed_tree.specs.Sizes.{fields_cells, sizes_after, sizes_of}
use Rattle.typed_tree.specs.TypedTree.{FunctionTree, TypedTree}
use Rattle.typed_tree.specs.WellFormed.{is_well_formed}
use Rattle.typed_tree.proofs.WellFormedLemmas.{facts_of, functions_few}
use Rattle.sides.specs.Layouts.{function_objects, functions_objects}
use Rattle.sides.specs.LeafTables.{counts_of}
use Rattle.sides.specs.Leaves.{Leaf, fields_leaves, leaf_count, leaves_after}
use Rattle.sides.specs.Objects.{global_objects, global_types, objects_from, types_count, variable_types}

-- ---- a program's lists

structs_counted : (xs : List StructInfo) → length xs ≤ sum_by (λ (s : StructInfo). 1 + length s.fields) xs
structs_counted [] = grind arith
structs_counted (x ∷ xs) = rw (sum_by-cons (λ (s : StructInfo). 1 + length s.fields) x xs) (grind (arith, structs_counted xs))

pub structs_few : (t : TypedTree) → IsTrue (is_well_formed t) → length t.structs < 2 ^ 63
structs_few t h =
    let few : IsTrue (nat_lt (nodes_of t) (2 ^ 28)) = (facts_of t h).few in
    let counted : length t.structs ≤ sum_by (λ (s : StructInfo). 1 + length s.fields) t.structs = structs_counted t.structs in
    grind (arith, nat_tests, counted, few)

pub globals_few : (t : TypedTree) → IsTrue (is_well_formed t) → length t.globals < 2 ^ 63
globals_few t h =
    let few : IsTrue (nat_lt (nodes_of t) (2 ^ 28)) = (facts_of t h).few in
    grind (arith, nat_tests, few)

pub all_functions_few : (t : TypedTree) → IsTrue (is_well_formed t) → length t.functions < 2 ^ 63
all_functions_few t h = let few : length t.functions < 2 ^ 28 = functions_few t h in omega (arith, few)

-- ---- those of a layout

leaves_long : (known : List (List Leaf)) (structs : List StructInfo) → length (leaves_after known structs) ≡ length known + length structs
leaves_long known [] = omega arith
leaves_long known (s ∷ ss) =
    let rest : length (leaves_after (known ++ fields_leaves known 0 s.fields ∷ []) ss) ≡ length (known ++ fields_leaves known 0 s.fields ∷ []) + length ss = leaves_long (known ++ fields_leaves known 0 s.fields ∷ []) ss in
    let more = length-append known (fields_leaves known 0 s.fields ∷ []) in
    omega (arith, rest, more)

pub counts_long : (structs : List StructInfo) → length (counts_of structs) ≡ length structs
counts_long structs =
    let mapped : length (counts_of structs) ≡ length (leaves_after [] structs) = length-map (leaves_after [] structs) length in
    let long = leaves_long [] structs in
    omega (arith, mapped, long)

cells_long : (sizes : List ℕ) (structs : List StructInfo) → length (sizes_after sizes structs) ≡ length sizes + length structs
cells_long sizes [] = omega arith
cells_long sizes (s ∷ ss) =
    let rest : length (sizes_after (sizes ++ fields_cells sizes s.fields ∷ []) ss) ≡ length (sizes ++ fields_cells sizes s.fields ∷ []) + length ss = cells_long (sizes ++ fields_cells sizes s.fields ∷ []) ss in
    let more = length-append sizes (fields_cells sizes s.fields ∷ []) in
    omega (arith, rest, more)

pub sizes_long : (structs : List StructInfo) → length (sizes_of structs) ≡ length structs
sizes_long structs = let long = cells_long [] structs in omega (arith, long)

objects_long : (count : VarTy → ℕ) (start : ℕ) (tys : List VarTy) → length (objects_from count start tys) ≡ length tys
objects_long count start [] = refl
objects_long count start (ty ∷ tys) = ap suc (objects_long count (start + count ty) tys)

pub globals_long : (t : TypedTree) → length (global_objects t) ≡ length t.globals
globals_long t = objects_long (leaf_count t.structs) 0 (global_types t) ∙ length-map t.globals (λ (g : TypedGlobal). g.var.ty)

functions_long : (count : VarTy → ℕ) (start : ℕ) (fs : List FunctionTree) → length (functions_objects count start fs) ≡ length fs
functions_long count start [] = refl
functions_long count start (f ∷ fs) = ap suc (functions_long count (start + types_count count (variable_types f)) fs)

pub variables_long : (t : TypedTree) → length (function_objects t) ≡ length t.functions
variables_long t = functions_long (leaf_count t.structs) (types_count (leaf_count t.structs) (global_types t)) t.functions
