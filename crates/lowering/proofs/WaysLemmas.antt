-- A walk over the integers of an object: what a step leaves of it.
use Rattle.std.proofs.Common.{◌≡◌, ℕ, zero, suc, ◌+◌, ◌*◌, ◌<◌, ◌≤◌, min, Bool, true, false, not, ◌||◌, List, [], ◌∷◌, ◌++◌, length, map, take, drop, get_or, replicate, Option, Some, None, is_some, slice_get, refl, sym, ap, ◌∙◌, subst, append_assoc, length-append, ◌==◌, arith}
use Rattle.std.specs.Prelude.{nat_lt, if◌then◌else◌}
use Rattle.std.proofs.lemmas.List.{append-nil, map-append, get_or_append_left, get_or_push, get_or_past, length-take, take_all}
use Rattle.std.proofs.lemmas.Option.{same_Some}
use Rattle.std.proofs.lemmas.Bool.Decides.{nat_tests}
use Rattle.pt_base.proofs.Numbers.{plus_one}
use Rattle.pt_tree.specs.declared.signature.Elem.{Elem}
use Rattle.pt_tree.specs.declared.signature.Elem.TheVariants as e
use Rattle.typed_tree.specs.declared.types.VarTy.{VarTy}
use Rattle.typed_tree.specs.declared.types.VarTy.TheVariants.{Int, Struct, Array, Pointer}
use Rattle.typed_tree.specs.declared.types.Field.{Field}
use Rattle.typed_tree.specs.declared.types.StructInfo.{StructInfo}
use Rattle.typed_tree.specs.TypeTests.{type_of_elem}
use Rattle.typed_tree.specs.Sizes.{fields_of}
use Rattle.lowering.specs.declared.leaves.Object.{Object}
use Rattle.lowering.specs.declared.leaves.Level.{Level}
use Rattle.lowering.specs.declared.leaves.Walk.{Walk}
use Rattle.lowering.specs.Leaves.{Step, Ways, begun_with, elem_ways, object_ways, element_ways, field_ways, ways_from, ways_of, to_field, to_element}
use Rattle.lowering.specs.Walks.{is_leaf, field_object, parts_by, parts_of, step_to, step_at, way_of, ways_below, ways_in, ways_from_part, ways_behind, ways_here, ways_around, ways_left, weight_of_elem, weight_of_elements, weight_by, weight_of_fields, weights_from, weight, weight_of_parts, weight_here, weight_around, weight_left, goes_on, Moves, Arrives, Stepped, Comes}

-- ---- tables by the structs' numbers, of which each entry is made of those before

abbrev table : {A : Type 0} → (List A → List Field → A) → List A → List StructInfo → List A
table f known [] = known
table f known (s ∷ rest) = table f (known ++ f known s.fields ∷ []) rest

length_table : {A : Type 0} (f : List A → List Field → A) (known : List A) (xs : List StructInfo) → length (table f known xs) ≡ length known + length xs
length_table f known [] = omega arith
length_table f known (s ∷ rest) =
    let a : length (known ++ f known s.fields ∷ []) ≡ length known + 1 = length-append known (f known s.fields ∷ []) in
    let b = length_table f (known ++ f known s.fields ∷ []) rest in
    let d : length (s ∷ rest) ≡ 1 + length rest = omega arith in
    omega arith

kept_in_table : {A : Type 0} (f : List A → List Field → A) (d : A) (known : List A) (xs : List StructInfo) (i : ℕ) → i < length known → get_or (table f known xs) i d ≡ get_or known i d
kept_in_table f d known [] i below = refl
kept_in_table f d known (s ∷ rest) i below =
    let a : length (known ++ f known s.fields ∷ []) ≡ length known + 1 = length-append known (f known s.fields ∷ []) in
    kept_in_table f d (known ++ f known s.fields ∷ []) rest i (omega arith) ∙ get_or_append_left known (f known s.fields ∷ []) d i below

table_at : {A : Type 0} (f : List A → List Field → A) (d : A) (none : (known : List A) → f known [] ≡ d) (known : List A) (xs : List StructInfo) (i bound k : ℕ) → i < bound → k ≡ length known + i → get_or (table f known (take bound xs)) k d ≡ f (table f known (take i xs)) (fields_of xs i)
table_at f d none known xs i zero k below e = absurd (omega arith)
table_at f d none known [] zero (suc b) k below e = get_or_past known k d (omega arith) ∙ sym (none known)
table_at f d none known [] (suc i) (suc b) k below e = get_or_past known k d (omega arith) ∙ sym (none known)
table_at f d none known (s ∷ rest) zero (suc b) k below e =
    let a : length (known ++ f known s.fields ∷ []) ≡ length known + 1 = length-append known (f known s.fields ∷ []) in
    kept_in_table f d (known ++ f known s.fields ∷ []) (take b rest) k (omega arith) ∙ get_or_push known (f known s.fields) d k (omega arith)
table_at f d none known (s ∷ rest) (suc i) (suc b) k below e =
    let a : length (known ++ f known s.fields ∷ []) ≡ length known + 1 = length-append known (f known s.fields ∷ []) in
    table_at f d none (known ++ f known s.fields ∷ []) rest i b k (omega arith) (omega arith)

past_table : {A : Type 0} (f : List A → List Field → A) (d : A) (xs : List StructInfo) (i bound : ℕ) → bound ≤ i → get_or (table f [] (take bound xs)) i d ≡ d
past_table f d xs i bound above =
    let a = length_table f [] (take bound xs) in
    let b : length (take bound xs) ≡ min bound (length xs) = length-take bound xs in
    get_or_past (table f [] (take bound xs)) i d (omega arith)

-- ---- the ways in the parts of an object

ways_table : (known : List Ways) (xs : List StructInfo) → ways_from known xs ≡ table (λ k fs. field_ways k 0 fs) known xs
ways_table known [] = refl
ways_table known (s ∷ rest) = ways_table (known ++ field_ways known 0 s.fields ∷ []) rest

ways_at : (structs : List StructInfo) (n bound : ℕ) → n < bound → get_or (ways_below structs bound) n [] ≡ field_ways (ways_below structs n) 0 (fields_of structs n)
ways_at structs n bound below =
    ap (λ t. get_or t n []) (ways_table [] (take bound structs)) ∙ table_at (λ k fs. field_ways k 0 fs) [] (λ known. refl) [] structs n bound n below (omega arith)
    ∙ ap (λ t. field_ways t 0 (fields_of structs n)) (sym (ways_table [] (take n structs)))

ways_past : (structs : List StructInfo) (n bound : ℕ) → bound ≤ n → get_or (ways_below structs bound) n [] ≡ []
ways_past structs n bound above = ap (λ t. get_or t n []) (ways_table [] (take bound structs)) ∙ past_table (λ k fs. field_ways k 0 fs) [] structs n bound above

fields_are_parts : (structs : List StructInfo) (n k : ℕ) (fs : List Field) → field_ways (ways_below structs n) k fs ≡ ways_from_part structs (Struct n) k (map (field_object n) fs)
fields_are_parts structs n k [] = refl
fields_are_parts structs n k (f ∷ fs) = ap (λ ws. begun_with (to_field k) (object_ways (ways_below structs n) f.ty) ++ ws) (fields_are_parts structs n (k + 1) fs)

elem_is : (known : List Ways) (elem : Elem) → elem_ways known elem ≡ object_ways known (type_of_elem elem)
elem_is known (e.Int t) = refl
elem_is known (e.Struct n) = refl

elements_are_parts : (structs : List StructInfo) (elem : Elem) (bound count more k : ℕ) → element_ways more k (elem_ways (ways_below structs bound) elem) ≡ ways_from_part structs (Array elem count) k (replicate more (record { ty = type_of_elem elem; bound = bound }))
elements_are_parts structs elem bound count zero k = refl
elements_are_parts structs elem bound count (suc more) k =
    ap (λ ws. begun_with (to_element k) ws ++ element_ways more (k + 1) (elem_ways (ways_below structs bound) elem)) (elem_is (ways_below structs bound) elem)
    ∙ ap (λ ws. begun_with (to_element k) (object_ways (ways_below structs bound) (type_of_elem elem)) ++ ws) (elements_are_parts structs elem bound count more (k + 1))

ways_are_parts : (structs : List StructInfo) (bound : ℕ) (ty : VarTy) → is_leaf ty ≡ false → object_ways (ways_below structs bound) ty ≡ ways_from_part structs ty 0 (parts_by structs bound ty)
ways_are_parts structs bound (Int t) h = absurd (grind arith)
ways_are_parts structs bound (Pointer elem fixed) h = absurd (grind arith)
ways_are_parts structs bound (Array elem count) h = elements_are_parts structs elem bound count count 0
ways_are_parts structs bound (Struct n) h = by_test (nat_lt n bound) refl
  where
    by_test : (b : Bool) → nat_lt n bound ≡ b → get_or (ways_below structs bound) n [] ≡ ways_from_part structs (Struct n) 0 (if nat_lt n bound then map (field_object n) (fields_of structs n) else [])
    by_test true t =
        ways_at structs n bound (grind (arith, nat_tests)) ∙ fields_are_parts structs n 0 (fields_of structs n)
        ∙ ap (λ b. ways_from_part structs (Struct n) 0 (if b then map (field_object n) (fields_of structs n) else [])) (sym t)
    by_test false t =
        ways_past structs n bound (grind (arith, nat_tests))
        ∙ ap (λ b. ways_from_part structs (Struct n) 0 (if b then map (field_object n) (fields_of structs n) else [])) (sym t)

-- the part of this number, and then the others
from_next : (structs : List StructInfo) (ty : VarTy) (j k : ℕ) (qs : List Object) → begun_with (step_to ty j) (ways_here structs (slice_get qs k)) ++ ways_from_part structs ty (j + 1) (drop (suc k) qs) ≡ ways_from_part structs ty j (drop k qs)
from_next structs ty j zero [] = refl
from_next structs ty j (suc k) [] = refl
from_next structs ty j zero (q ∷ qs) = refl
from_next structs ty j (suc k) (q ∷ qs) = from_next structs ty j k qs

from_part : (structs : List StructInfo) (ty : VarTy) (j k : ℕ) (qs : List Object) → begun_with (step_to ty j) (ways_here structs (slice_get qs k)) ++ ways_from_part structs ty (j + 1) (drop (k + 1) qs) ≡ ways_from_part structs ty j (drop k qs)
from_part structs ty j k qs = ap (λ m. begun_with (step_to ty j) (ways_here structs (slice_get qs k)) ++ ways_from_part structs ty (j + 1) (drop m qs)) (plus_one k) ∙ from_next structs ty j k qs

around_last : (structs : List StructInfo) (ls : List Level) (l : Level) (inner : Ways) → ways_around structs (ls ++ l ∷ []) inner ≡ ways_around structs ls (begun_with (step_at l) inner ++ ways_behind structs l)
around_last structs [] l inner = refl
around_last structs (m ∷ ls) l inner = ap (λ ws. begun_with (step_at m) ws ++ ways_behind structs m) (around_last structs ls l inner)

around_leaf : (structs : List StructInfo) (ls : List Level) → ways_around structs ls ([] ∷ []) ≡ way_of ls ∷ ways_around structs ls []
around_leaf structs [] = refl
around_leaf structs (l ∷ ls) = ap (λ ws. begun_with (step_at l) ws ++ ways_behind structs l) (around_leaf structs ls)

-- ---- how much is left

weights_table : (known : List ℕ) (xs : List StructInfo) → weights_from known xs ≡ table weight_of_fields known xs
weights_table known [] = refl
weights_table known (s ∷ rest) = weights_table (known ++ weight_of_fields known s.fields ∷ []) rest

weight_at : (structs : List StructInfo) (n bound : ℕ) → n < bound → get_or (weights_from [] (take bound structs)) n 2 ≡ weight_of_fields (weights_from [] (take n structs)) (fields_of structs n)
weight_at structs n bound below =
    ap (λ t. get_or t n 2) (weights_table [] (take bound structs)) ∙ table_at weight_of_fields 2 (λ known. refl) [] structs n bound n below (omega arith)
    ∙ ap (λ t. weight_of_fields t (fields_of structs n)) (sym (weights_table [] (take n structs)))

weight_past : (structs : List StructInfo) (n bound : ℕ) → bound ≤ n → get_or (weights_from [] (take bound structs)) n 2 ≡ 2
weight_past structs n bound above = ap (λ t. get_or t n 2) (weights_table [] (take bound structs)) ∙ past_table weight_of_fields 2 structs n bound above

weight_fields : (structs : List StructInfo) (n : ℕ) (fs : List Field) → weight_of_fields (weights_from [] (take n structs)) fs ≡ 2 + weight_of_parts structs (map (field_object n) fs)
weight_fields structs n [] = refl
weight_fields structs n (f ∷ fs) =
    let a = weight_fields structs n fs in
    omega arith

weight_elem : (known : List ℕ) (elem : Elem) → weight_of_elem known elem ≡ weight_by known (type_of_elem elem)
weight_elem known (e.Int t) = refl
weight_elem known (e.Struct n) = refl

weight_elements : (structs : List StructInfo) (q : Object) (more : ℕ) → weight_of_elements more (weight structs q) ≡ weight_of_parts structs (replicate more q)
weight_elements structs q zero = refl
weight_elements structs q (suc more) = ap (λ n. 1 + weight structs q + n) (weight_elements structs q more)

weight_is_parts : (structs : List StructInfo) (bound : ℕ) (ty : VarTy) → weight_by (weights_from [] (take bound structs)) ty ≡ 2 + weight_of_parts structs (parts_by structs bound ty)
weight_is_parts structs bound (Int t) = refl
weight_is_parts structs bound (Pointer elem fixed) = refl
weight_is_parts structs bound (Array elem count) =
    ap (λ n. 2 + weight_of_elements count n) (weight_elem (weights_from [] (take bound structs)) elem)
    ∙ ap (λ n. 2 + n) (weight_elements structs (record { ty = type_of_elem elem; bound = bound }) count)
weight_is_parts structs bound (Struct n) = by_test (nat_lt n bound) refl
  where
    by_test : (b : Bool) → nat_lt n bound ≡ b → get_or (weights_from [] (take bound structs)) n 2 ≡ 2 + weight_of_parts structs (if nat_lt n bound then map (field_object n) (fields_of structs n) else [])
    by_test true t =
        weight_at structs n bound (grind (arith, nat_tests)) ∙ weight_fields structs n (fields_of structs n)
        ∙ ap (λ b. 2 + weight_of_parts structs (if b then map (field_object n) (fields_of structs n) else [])) (sym t)
    by_test false t =
        weight_past structs n bound (grind (arith, nat_tests))
        ∙ ap (λ b. 2 + weight_of_parts structs (if b then map (field_object n) (fields_of structs n) else [])) (sym t)

-- a part and those behind it weigh at most what they weigh together, and less where there is one
most_from_next : (structs : List StructInfo) (k : ℕ) (qs : List Object) → weight_here structs (slice_get qs k) + weight_of_parts structs (drop (suc k) qs) ≤ weight_of_parts structs (drop k qs)
most_from_next structs zero [] = omega arith
most_from_next structs (suc k) [] = omega arith
most_from_next structs zero (q ∷ qs) = omega arith
most_from_next structs (suc k) (q ∷ qs) = most_from_next structs k qs

weight_from_part : (structs : List StructInfo) (k : ℕ) (qs : List Object) → weight_here structs (slice_get qs k) + weight_of_parts structs (drop (k + 1) qs) ≤ weight_of_parts structs (drop k qs)
weight_from_part structs k qs = subst (λ m. weight_here structs (slice_get qs k) + weight_of_parts structs (drop m qs) ≤ weight_of_parts structs (drop k qs)) (sym (plus_one k)) (most_from_next structs k qs)

less_from_next : (structs : List StructInfo) (k : ℕ) (qs : List Object) (q : Object) → slice_get qs k ≡ Some q → weight structs q + weight_of_parts structs (drop (suc k) qs) < weight_of_parts structs (drop k qs)
less_from_next structs zero [] q h = absurd (grind arith)
less_from_next structs (suc k) [] q h = absurd (grind arith)
less_from_next structs zero (p ∷ qs) q h = subst (λ z. weight structs z + weight_of_parts structs qs < weight_of_parts structs (p ∷ qs)) (same_Some p q h) (omega arith)
less_from_next structs (suc k) (p ∷ qs) q h = less_from_next structs k qs q h

less_from_part : (structs : List StructInfo) (k : ℕ) (qs : List Object) (q : Object) → slice_get qs k ≡ Some q → weight structs q + weight_of_parts structs (drop (k + 1) qs) < weight_of_parts structs (drop k qs)
less_from_part structs k qs q h = subst (λ m. weight structs q + weight_of_parts structs (drop m qs) < weight_of_parts structs (drop k qs)) (sym (plus_one k)) (less_from_next structs k qs q h)

weight_last : (structs : List StructInfo) (ls : List Level) (l : Level) → weight_around structs (ls ++ l ∷ []) ≡ weight_around structs ls + weight_around structs (l ∷ [])
weight_last structs [] l = omega arith
weight_last structs (m ∷ ls) l =
    let a = weight_last structs ls l in
    omega arith

-- ---- steps

-- from an object that is no leaf to its first part
pub entered : (structs : List StructInfo) (w w' : Walk) (q : Object) → w.here ≡ Some q → is_leaf q.ty ≡ false → w'.levels.items ≡ w.levels.items ++ record { whole = q; at = 0 } ∷ [] → w'.here ≡ slice_get (parts_of structs q) 0 → Moves structs w w'
entered structs w w' q eh leaf el en =
    let ls = w.levels.items in
    let l : Level = record { whole = q; at = 0 } in
    let parts = parts_of structs q in
    let a : weight_around structs w'.levels.items ≡ weight_around structs ls + weight_around structs (l ∷ []) = ap (weight_around structs) el ∙ weight_last structs ls l in
    let a1 : weight_around structs (l ∷ []) ≡ 1 + weight_of_parts structs (drop (0 + 1) parts) = omega arith in
    let b : weight_here structs w'.here ≡ weight_here structs (slice_get parts 0) = ap (weight_here structs) en in
    let d : weight_here structs (slice_get parts 0) + weight_of_parts structs (drop (0 + 1) parts) ≤ weight_of_parts structs parts = weight_from_part structs 0 parts in
    let f : weight_here structs w.here ≡ 2 + weight_of_parts structs parts = ap (weight_here structs) eh ∙ weight_is_parts structs q.bound q.ty in
    record {
      same = ap (λ h. ways_around structs ls (ways_here structs h)) eh
          ∙ ap (ways_around structs ls) (ways_are_parts structs q.bound q.ty leaf ∙ sym (from_part structs q.ty 0 0 parts))
          ∙ sym (around_last structs ls l (ways_here structs (slice_get parts 0)))
          ∙ ap (λ h. ways_around structs (ls ++ l ∷ []) (ways_here structs h)) (sym en)
          ∙ ap (λ z. ways_around structs z (ways_here structs w'.here)) (sym el);
      less = omega arith;
    }

left_behind : (structs : List StructInfo) (w : Walk) (ls : List Level) (l : Level) → w.here ≡ None → w.levels.items ≡ ls ++ l ∷ [] → ways_left structs w ≡ ways_around structs ls (ways_behind structs l)
left_behind structs w ls l eh el =
    ap (λ h. ways_around structs w.levels.items (ways_here structs h)) eh ∙ ap (λ z. ways_around structs z []) el ∙ around_last structs ls l []

weight_behind : (structs : List StructInfo) (w : Walk) (ls : List Level) (l : Level) → w.here ≡ None → w.levels.items ≡ ls ++ l ∷ [] → weight_left structs w ≡ weight_around structs ls + (1 + weight_of_parts structs (drop (l.at + 1) (parts_of structs l.whole)))
weight_behind structs w ls l eh el =
    let a : weight_around structs w.levels.items ≡ weight_around structs ls + weight_around structs (l ∷ []) = ap (weight_around structs) el ∙ weight_last structs ls l in
    let a1 : weight_around structs (l ∷ []) ≡ 1 + weight_of_parts structs (drop (l.at + 1) (parts_of structs l.whole)) = omega arith in
    let b : weight_here structs w.here ≡ 0 = ap (weight_here structs) eh in
    omega arith

none_behind : (k : ℕ) (qs : List Object) → slice_get qs k ≡ None → drop k qs ≡ []
none_behind zero [] h = refl
none_behind (suc k) [] h = refl
none_behind zero (q ∷ qs) h = absurd (grind arith)
none_behind (suc k) (q ∷ qs) h = none_behind k qs h

-- from a part to the next one
pub advanced : (structs : List StructInfo) (w w' : Walk) (ls : List Level) (l : Level) (at : ℕ) (q : Object) → w.here ≡ None → w.levels.items ≡ ls ++ l ∷ [] → at ≡ l.at + 1 → slice_get (parts_of structs l.whole) at ≡ Some q →
    w'.levels.items ≡ ls ++ record { whole = l.whole; at = at } ∷ [] → w'.here ≡ Some q → Moves structs w w'
advanced structs w w' ls l at q eh el ea eq el1 eh1 =
    let parts = parts_of structs l.whole in
    let m : Level = record { whole = l.whole; at = l.at + 1 } in
    let el2 : w'.levels.items ≡ ls ++ m ∷ [] = el1 ∙ ap (λ k. ls ++ record { whole = l.whole; at = k } ∷ []) ea in
    let eq2 : slice_get parts (l.at + 1) ≡ Some q = ap (slice_get parts) (sym ea) ∙ eq in
    let a : weight_around structs w'.levels.items ≡ weight_around structs ls + weight_around structs (m ∷ []) = ap (weight_around structs) el2 ∙ weight_last structs ls m in
    let a1 : weight_around structs (m ∷ []) ≡ 1 + weight_of_parts structs (drop (l.at + 1 + 1) parts) = omega arith in
    let b : weight_here structs w'.here ≡ weight structs q = ap (weight_here structs) eh1 in
    let d : weight structs q + weight_of_parts structs (drop (l.at + 1 + 1) parts) < weight_of_parts structs (drop (l.at + 1) parts) = less_from_part structs (l.at + 1) parts q eq2 in
    let f = weight_behind structs w ls l eh el in
    record {
      same = left_behind structs w ls l eh el
          ∙ ap (ways_around structs ls) (sym (from_part structs l.whole.ty (l.at + 1) (l.at + 1) parts))
          ∙ sym (around_last structs ls m (ways_here structs (slice_get parts (l.at + 1))))
          ∙ ap (λ h. ways_around structs (ls ++ m ∷ []) (ways_here structs h)) (eq2 ∙ sym eh1)
          ∙ ap (λ z. ways_around structs z (ways_here structs w'.here)) (sym el2);
      less = omega arith;
    }

-- behind the last part of an object
pub left_object : (structs : List StructInfo) (w w' : Walk) (ls : List Level) (l : Level) (at : ℕ) → w.here ≡ None → w.levels.items ≡ ls ++ l ∷ [] → at ≡ l.at + 1 → slice_get (parts_of structs l.whole) at ≡ None → w'.levels.items ≡ ls → w'.here ≡ None → Moves structs w w'
left_object structs w w' ls l at eh el ea eq el1 eh1 =
    let parts = parts_of structs l.whole in
    let eq2 : drop (l.at + 1) parts ≡ [] = none_behind (l.at + 1) parts (ap (slice_get parts) (sym ea) ∙ eq) in
    let a : weight_around structs w'.levels.items ≡ weight_around structs ls = ap (weight_around structs) el1 in
    let b : weight_here structs w'.here ≡ 0 = ap (weight_here structs) eh1 in
    let f = weight_behind structs w ls l eh el in
    record {
      same = left_behind structs w ls l eh el
          ∙ ap (λ z. ways_around structs ls (ways_from_part structs l.whole.ty (l.at + 1) z)) eq2
          ∙ ap (λ h. ways_around structs ls (ways_here structs h)) (sym eh1)
          ∙ ap (λ z. ways_around structs z (ways_here structs w'.here)) (sym el1);
      less = omega arith;
    }

leaf_ways : (known : List Ways) (ty : VarTy) → is_leaf ty ≡ true → object_ways known ty ≡ [] ∷ []
leaf_ways known (Int t) h = refl
leaf_ways known (Pointer elem fixed) h = refl
leaf_ways known (Struct n) h = absurd (grind arith)
leaf_ways known (Array elem count) h = absurd (grind arith)

-- at an integer
pub arrived : (structs : List StructInfo) (w w' : Walk) (q : Object) → w.here ≡ Some q → is_leaf q.ty ≡ true → w'.levels.items ≡ w.levels.items → w'.here ≡ None → Arrives structs w w'
arrived structs w w' q eh leaf el en =
    let ls = w.levels.items in
    record {
      first = ap (λ h. ways_around structs ls (ways_here structs h)) eh
          ∙ ap (ways_around structs ls) (leaf_ways (ways_below structs q.bound) q.ty leaf)
          ∙ around_leaf structs ls
          ∙ ap (λ z. way_of z ∷ ways_around structs z []) (sym el)
          ∙ ap (λ h. way_of w'.levels.items ∷ ways_around structs w'.levels.items (ways_here structs h)) (sym en);
    }

-- ---- the whole walk

pub begun : (structs : List StructInfo) (w : Walk) (ty : VarTy) (b : ℕ) → w.levels.items ≡ [] → w.here ≡ Some (record { ty = ty; bound = b }) → b ≡ length structs → ways_left structs w ≡ ways_of structs ty
begun structs w ty b el eh eb =
    let t : take b structs ≡ structs = take_all b structs (omega arith) in
    ap (λ z. ways_around structs z (ways_here structs w.here)) el ∙ ap (ways_here structs) eh ∙ ap (λ xs. object_ways (ways_from [] xs) ty) t

pub inside : (w : Walk) (b : Bool) → goes_on w ≡ true → w.here ≡ None → 0 < length w.levels.items
inside w b g h = by_length w.levels.items (ap (λ (o : Option Object). is_some o || not (length w.levels.items == 0)) (sym h) ∙ g)
  where
    by_length : (ls : List Level) → not (length ls == 0) ≡ true → 0 < length ls
    by_length [] e = absurd (grind (arith, nat_tests))
    by_length (l ∷ ls) e = omega arith

nothing_there : (structs : List StructInfo) (h : Option Object) (ls : List Level) → (is_some h || not (length ls == 0)) ≡ false → ways_around structs ls (ways_here structs h) ≡ []
nothing_there structs None [] e = refl
nothing_there structs None (l ∷ ls) e = absurd (grind (arith, nat_tests))
nothing_there structs (Some q) ls e = absurd (grind arith)

pub nothing_left : (structs : List StructInfo) (w0 w : Walk) → ways_left structs w0 ≡ ways_left structs w → goes_on w ≡ false → Comes structs false w0 w
nothing_left structs w0 w same e = same ∙ nothing_there structs w.here w.levels.items e

pub comes : (structs : List StructInfo) (b : Bool) (w0 w w' : Walk) → ways_left structs w0 ≡ ways_left structs w → b ≡ true → Stepped structs b w w' → Comes structs true w0 w'
comes structs true w0 w w' same e h = record { first = same ∙ h.first }
comes structs false w0 w w' same e h = absurd (grind arith)

pub moves_on : (structs : List StructInfo) (b : Bool) (w w' : Walk) → b ≡ false → Stepped structs b w w' → Moves structs w w'
moves_on structs true w w' e h = absurd (grind arith)
moves_on structs false w w' e h = h

pub arrives : (structs : List StructInfo) (b : Bool) (w w' : Walk) → b ≡ true → Comes structs b w w' → Arrives structs w w'
arrives structs true w w' e h = h
arrives structs false w w' e h = absurd (grind arith)

pub none_comes : (structs : List StructInfo) (b : Bool) (w w' : Walk) → b ≡ false → Comes structs b w w' → ways_left structs w ≡ []
none_comes structs true w w' e h = absurd (grind arith)
none_comes structs false w w' e h = h
