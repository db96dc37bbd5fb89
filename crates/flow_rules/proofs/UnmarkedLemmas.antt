-- The leaves that lie under no marked field.
use Rattle.std.proofs.Common.{◌≡◌, ◌∙◌, ◌<◌, ◌+◌, ◌-◌, ℕ, zero, suc, refl, ap, sym, arith, Bool, true, false, Some, List, ◌∷◌, [], ◌++◌, append_assoc, length, get_or, map}
use Rattle.std.specs.Prelude.{if◌then◌else◌, not, slice_get}
use Rattle.std.specs.List.{filter, range_with_len}
use Rattle.sides.proofs.StandLemmas.{objects_stand}
use Rattle.sides.specs.declared.objects.Object.{Object}
use Rattle.sides.specs.declared.slots.Owner.{Owner}
use Rattle.sides.specs.declared.slots.SlotInfo.{SlotInfo}
use Rattle.sides.specs.Leaves.{Leaf, leaf_count, leaves_of, whole}
use Rattle.sides.specs.Objects.{variable_objects}
use Rattle.sides.specs.Slots.{no_slot, slot_of, slots_of}
use Rattle.typed_tree.specs.declared.types.StructInfo.{StructInfo}
use Rattle.typed_tree.specs.declared.types.VarTy.{VarTy}
use Rattle.typed_tree.specs.TypedTree.{TypedTree}
use Rattle.flow_rules.specs.Kept.{is_unmarked_at, unmarked_leaf, unmarked_slots}
use Rattle.flow_rules.specs.Secrets.{unmarked_leaves}

-- one leaf after the other
pub next_unmarked : (test : ℕ → Bool) (marked : Bool) (xs new whole : List ℕ) (n j : ℕ) → j < n → test j ≡ not marked → new ≡ xs ++ unmarked_leaf marked j →
    xs ++ filter test (range_with_len j (n - j)) ≡ whole → new ++ filter test (range_with_len (j + 1) (n - (j + 1))) ≡ whole
next_unmarked test marked xs new whole n j lt is added e =
    let more : n - j ≡ suc (n - (j + 1)) = omega (arith, lt) in
    ap (λ ys. ys ++ filter test (range_with_len (j + 1) (n - (j + 1)))) added
    ∙ append_assoc xs (unmarked_leaf marked j) (filter test (range_with_len (j + 1) (n - (j + 1))))
    ∙ ap (λ ys. xs ++ ys) (sym (go marked (test j) is))
    ∙ ap (λ k. xs ++ filter test (range_with_len j k)) (sym more) ∙ e
  where
    go : (m b : Bool) → b ≡ not m →
        (if b then j ∷ filter test (range_with_len (j + 1) (n - (j + 1))) else filter test (range_with_len (j + 1) (n - (j + 1))))
        ≡ unmarked_leaf m j ++ filter test (range_with_len (j + 1) (n - (j + 1)))
    go true true h = cc
    go true false h = refl
    go false true h = refl
    go false false h = cc

-- ---- an argument's, as its parameter's slots tell them

filter_alike : (p q : ℕ → Bool) (n j : ℕ) → ((i : ℕ) → i < j + n → p i ≡ q i) → filter p (range_with_len j n) ≡ filter q (range_with_len j n)
filter_alike p q zero j h = refl
filter_alike p q (suc n) j h = go (p j) (q j) (h j (omega arith)) (filter_alike p q n (j + 1) (λ i lt. h i (omega (arith, lt))))
  where
    go : (a b : Bool) → a ≡ b → filter p (range_with_len (j + 1) n) ≡ filter q (range_with_len (j + 1) n) →
        (if a then j ∷ filter p (range_with_len (j + 1) n) else filter p (range_with_len (j + 1) n))
        ≡ (if b then j ∷ filter q (range_with_len (j + 1) n) else filter q (range_with_len (j + 1) n))
    go true true e rest = ap (λ xs. j ∷ xs) rest
    go true false e rest = cc
    go false true e rest = cc
    go false false e rest = rest

pub unmarked_are : (t : TypedTree) (g k : ℕ) (x : Object) (ty : VarTy) → Some x ≡ slice_get (variable_objects t g) k → x.ty ≡ ty →
    unmarked_slots (slots_of t) x.start (leaf_count t.structs ty) ≡ unmarked_leaves t.structs (Some ty)
unmarked_are t g k x ty at same =
    let alike = ap (leaves_of t.structs) same in
    let long : length (leaves_of t.structs x.ty) ≡ length (leaves_of t.structs ty) = ap length alike in
    filter_alike (is_unmarked_at (slots_of t) x.start) (λ j. not (get_or (leaves_of t.structs ty) j whole).marked) (leaf_count t.structs ty) 0
    (λ j lt. ap (λ (s : SlotInfo). not s.marked) ((objects_stand t).variables g k x (sym at) j (omega (arith, lt, long))) ∙ ap (λ (ls : List Leaf). not (get_or ls j whole).marked) alike)

-- ---- as the leaves of its own type tell them

marked_at : (owner : Owner) (ls : List Leaf) (j : ℕ) → (get_or (map (slot_of owner) ls) j no_slot).marked ≡ (get_or ls j whole).marked
marked_at owner [] j = refl
marked_at owner (l ∷ ls) zero = refl
marked_at owner (l ∷ ls) (suc j) = marked_at owner ls j

pub unmarked_made : (structs : List StructInfo) (owner : Owner) (ty : VarTy) → unmarked_slots (map (slot_of owner) (leaves_of structs ty)) 0 (leaf_count structs ty) ≡ unmarked_leaves structs (Some ty)
unmarked_made structs owner ty =
    filter_alike (is_unmarked_at (map (slot_of owner) (leaves_of structs ty)) 0) (λ j. not (get_or (leaves_of structs ty) j whole).marked) (leaf_count structs ty) 0
    (λ j lt. ap (λ k. not (get_or (map (slot_of owner) (leaves_of structs ty)) k no_slot).marked) (let e : 0 + j ≡ j = omega arith in e) ∙ ap not (marked_at owner (leaves_of structs ty) j))
