-- What leads to the integers of an object is plain.
use Rattle.std.proofs.Common.{◌≡◌, ℕ, zero, suc, ◌+◌, ◌≤◌, pos, Bool, true, List, [], ◌∷◌, ◌++◌, refl, arith}
use Rattle.std.specs.Prelude.{int_le, slice_get, unwrap_or}
use Rattle.std.specs.List.{list_all, flat_map, range_with_len}
use Rattle.std.proofs.lemmas.Bool.{and_parts, leb-true}
use Rattle.pt_base.specs.IntTypes.{high_of}
use Rattle.pt_base.specs.declared.int_type.IntType.TheVariants as i
use Rattle.pt_base.proofs.Members.{all_true_append}
use Rattle.pt_tree.specs.declared.signature.Elem.{Elem}
use Rattle.pt_tree.specs.declared.signature.Elem.TheVariants as e
use Rattle.pt_tree.specs.ExpressionTree.{PostfixTree, dot}
use Rattle.typed_tree.specs.declared.types.Field.{Field}
use Rattle.typed_tree.specs.declared.types.StructInfo.{StructInfo}
use Rattle.typed_tree.specs.declared.types.VarTy.{VarTy}
use Rattle.typed_tree.specs.declared.types.VarTy.TheVariants.{Int, Struct, Array, Pointer}
use Rattle.c_printer.specs.Plain.{postfix_plain}
use Rattle.half_trees.specs.Names.{nowhere, word, field_by}
use Rattle.half_trees.specs.Leaves.{Leaf, behind, element, element_leaves, object_leaves, field_leaves, struct_leaves, leaves_from, leaves_of}
use Rattle.half_trees_law.proofs.Tests.{both}
use Rattle.half_trees_law.proofs.Names.{field_by_is_name}
use Rattle.half_trees_law.proofs.Counts.{is_counted, are_counted, structs_counted}
use Rattle.half_trees_law.proofs.Expressions.{number_plain}

abbrev pub leaf_plain : Leaf → Bool
leaf_plain leaf = list_all postfix_plain leaf

abbrev leaves_plain : List Leaf → Bool
leaves_plain leaves = list_all leaf_plain leaves

pub small_is_int : (n : ℕ) → n ≤ 65_536 → int_le (pos n) (high_of i.Int) ≡ true
small_is_int n low = grind (arith, low)

pub element_plain : (n : ℕ) → n ≤ 65_536 → postfix_plain (element n) ≡ true
element_plain n low = number_plain i.Int n refl (small_is_int n low)

behind_plain : (p : PostfixTree) (leaves : List Leaf) → postfix_plain p ≡ true → leaves_plain leaves ≡ true → leaves_plain (behind p leaves) ≡ true
behind_plain p [] h k = refl
behind_plain p (l ∷ ls) h k = let parts = and_parts (leaf_plain l) (leaves_plain ls) k in both (both h parts.0) (behind_plain p ls h parts.1)

found_plain : (known : List (List Leaf)) (n : ℕ) → list_all leaves_plain known ≡ true → leaves_plain (unwrap_or (slice_get known n) []) ≡ true
found_plain [] n h = refl
found_plain (x ∷ xs) zero h = (and_parts (leaves_plain x) (list_all leaves_plain xs) h).0
found_plain (x ∷ xs) (suc n) h = found_plain xs n (and_parts (leaves_plain x) (list_all leaves_plain xs) h).1

element_leaves_plain : (known : List (List Leaf)) (elem : Elem) → list_all leaves_plain known ≡ true → leaves_plain (element_leaves known elem) ≡ true
element_leaves_plain known (e.Int t) h = refl
element_leaves_plain known (e.Struct n) h = found_plain known n h

-- of the elements from the first on
elements_plain : (leaves : List Leaf) → leaves_plain leaves ≡ true → (first count : ℕ) → first + count ≤ 65_536 → leaves_plain (flat_map (λ n. behind (element n) leaves) (range_with_len first count)) ≡ true
elements_plain leaves h first zero low = refl
elements_plain leaves h first (suc count) low =
    all_true_append leaf_plain (behind (element first) leaves) (flat_map (λ n. behind (element n) leaves) (range_with_len (first + 1) count))
    (behind_plain (element first) leaves (element_plain first (omega (arith, low))) h) (elements_plain leaves h (first + 1) count (omega (arith, low)))

object_leaves_plain : (known : List (List Leaf)) (ty : VarTy) → list_all leaves_plain known ≡ true → is_counted ty ≡ true → leaves_plain (object_leaves known ty) ≡ true
object_leaves_plain known (Int t) h is = refl
object_leaves_plain known (Struct n) h is = found_plain known n h
object_leaves_plain known (Array elem count) h is =
    let few = leb-true count 65_536 is in
    elements_plain (element_leaves known elem) (element_leaves_plain known elem h) 0 count (omega (arith, few))
object_leaves_plain known (Pointer elem fixed) h is = refl

field_leaves_plain : (known : List (List Leaf)) (all : List Field) (k : ℕ) (fields : List Field) → list_all leaves_plain known ≡ true → are_counted fields ≡ true → leaves_plain (field_leaves known all k fields) ≡ true
field_leaves_plain known all k [] h are = refl
field_leaves_plain known all k (f ∷ fs) h are =
    let parts = and_parts (is_counted f.ty) (are_counted fs) are in
    all_true_append leaf_plain (behind (dot nowhere (word (field_by all k))) (object_leaves known f.ty)) (field_leaves known all (suc k) fs)
    (behind_plain (dot nowhere (word (field_by all k))) (object_leaves known f.ty) (field_by_is_name all k) (object_leaves_plain known f.ty h parts.0))
    (field_leaves_plain known all (suc k) fs h parts.1)

all_leaves_plain : (known : List (List Leaf)) (structs : List StructInfo) → list_all leaves_plain known ≡ true → structs_counted structs ≡ true → list_all leaves_plain (leaves_from known structs) ≡ true
all_leaves_plain known [] h are = h
all_leaves_plain known (s ∷ ss) h are =
    let parts = and_parts (are_counted s.fields) (structs_counted ss) are in
    all_leaves_plain (known ++ struct_leaves known s ∷ []) ss (all_true_append leaves_plain known (struct_leaves known s ∷ []) h (both (field_leaves_plain known s.fields 0 s.fields h parts.0) refl)) parts.1

pub leaves_of_plain : (structs : List StructInfo) (ty : VarTy) → structs_counted structs ≡ true → is_counted ty ≡ true → list_all leaf_plain (leaves_of structs ty) ≡ true
unfolding leaves_of
leaves_of_plain structs ty h is = object_leaves_plain (leaves_from [] structs) ty (all_leaves_plain [] structs refl h) is
