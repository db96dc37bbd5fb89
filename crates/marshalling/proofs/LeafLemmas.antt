-- The cells of an element are those of its parts.
use Rattle.std.proofs.Common.{◌≡◌, ◌<◌, ◌≤◌, ◌+◌, ◌-◌, ◌++◌, ◌∙◌, sym, ap, refl, ℕ, zero, suc, Bool, true, false, List, [], ◌∷◌, length, drop, get_or, map, arith, Some, append_assoc}
use Rattle.std.specs.Prelude.{◌||◌, slice_get, unwrap_or}
use Rattle.std.specs.List.{list_all, flat_map}
use Rattle.std.proofs.lemmas.Bool.Decides.{nat_tests}
use Rattle.std.proofs.lemmas.List.{map-append}
use Rattle.pt_base.specs.declared.int_type.IntType.{IntType}
use Rattle.pt_base.proofs.Booleans.{and_true_first, and_true_second, as_or_with_false, or_assoc}
use Rattle.pt_base.proofs.Lists.{length_pushed}
use Rattle.pt_base.proofs.Places.{get_before, get_pushed_at}
use Rattle.pt_tree.specs.declared.signature.Elem.{Elem}
use Rattle.pt_tree.specs.declared.signature.Elem.TheVariants as e
use Rattle.typed_tree.specs.declared.types.VarTy.{VarTy}
use Rattle.typed_tree.specs.declared.types.VarTy.TheVariants.{Int, Struct, Array, Pointer}
use Rattle.typed_tree.specs.declared.types.Field.{Field}
use Rattle.typed_tree.specs.declared.types.StructInfo.{StructInfo}
use Rattle.typed_tree.specs.Cells.{repeated}
use Rattle.marshalling.specs.declared.leaf.Leaf.{Leaf}
use Rattle.marshalling.specs.Leaves.{under, object_leaves, field_leaves, leaves_from, leaves_of, object_cells, field_cells, is_elem, is_object, name_earlier}
use Rattle.marshalling.proofs.Lists.{all_at, at_drop, get_at}

-- ---- marks

-- marks one above another are one
pub under-under : (a b : Bool) (leaves : List Leaf) → map (under a) (map (under b) leaves) ≡ map (under (a || b)) leaves
under-under a b [] = refl
under-under a b (leaf ∷ leaves) =
    ap (λ m. record { ty = leaf.ty; marked = m } ∷ map (under a) (map (under b) leaves)) (or_assoc a b leaf.marked)
    ∙ ap (λ xs. record { ty = leaf.ty; marked = (a || b) || leaf.marked } ∷ xs) (under-under a b leaves)

-- no mark leaves all as they are
pub under_none : (leaves : List Leaf) → map (under false) leaves ≡ leaves
under_none [] = refl
under_none (leaf ∷ leaves) = ap (λ xs. leaf ∷ xs) (under_none leaves)

-- ---- tables

abbrev struct_leaves : List (List Leaf) → StructInfo → List Leaf
struct_leaves known s = flat_map (field_leaves known) s.fields

-- what is known of earlier structs stays
kept : (known : List (List Leaf)) (ss : List StructInfo) (k : ℕ) → k < length known → slice_get (leaves_from known ss) k ≡ slice_get known k
kept known [] k h = refl
kept known (s ∷ ss) k h =
    let more = length_pushed known (struct_leaves known s) in
    kept (known ++ struct_leaves known s ∷ []) ss k (omega (arith, h, more)) ∙ get_before known (struct_leaves known s ∷ []) k h

-- what names earlier structs only has the same leaves
same_object : (known : List (List Leaf)) (ss : List StructInfo) (ty : VarTy) → is_object (length known) ty ≡ true
    → object_leaves (leaves_from known ss) ty ≡ object_leaves known ty
same_object known ss (Int t) h = refl
same_object known ss (Struct n) h = ap (λ o. unwrap_or o []) (kept known ss n (grind (arith, nat_tests, h)))
same_object known ss (Array (e.Int t) count) h = refl
same_object known ss (Array (e.Struct n) count) h = ap (λ o. repeated count (unwrap_or o [])) (kept known ss n (grind (arith, nat_tests, h)))
same_object known ss (Pointer elem fixed) h = refl

same_fields : (known : List (List Leaf)) (ss : List StructInfo) (fs : List Field) → list_all (λ f. is_object (length known) f.ty) fs ≡ true
    → flat_map (field_leaves known) fs ≡ flat_map (field_leaves (leaves_from known ss)) fs
same_fields known ss [] h = refl
same_fields known ss (f ∷ fs) h =
    let here = and_true_first (is_object (length known) f.ty) (list_all (λ f. is_object (length known) f.ty) fs) h in
    let rest = same_fields known ss fs (and_true_second (is_object (length known) f.ty) (list_all (λ f. is_object (length known) f.ty) fs) h) in
    ap (λ xs. map (under f.marked) xs ++ flat_map (field_leaves known) fs) (sym (same_object known ss f.ty here))
    ∙ ap (λ xs. field_leaves (leaves_from known ss) f ++ xs) rest

struct_at : (known : List (List Leaf)) (ss : List StructInfo) (i : ℕ) (s : StructInfo) (n k : ℕ) → n ≡ length known → k ≡ n + i
    → name_earlier n ss ≡ true → slice_get ss i ≡ Some s
    → unwrap_or (slice_get (leaves_from known ss) k) [] ≡ flat_map (field_leaves (leaves_from known ss)) s.fields
struct_at known [] i s n k is at h e = cc
struct_at known (s' ∷ ss) zero s n k is at h e =
    let fields = and_true_first (list_all (λ f. is_object n f.ty) s'.fields) (name_earlier (suc n) ss) h in
    let fields' : list_all (λ f. is_object (length known) f.ty) s'.fields ≡ true = rw (← is) fields in
    let more = length_pushed known (struct_leaves known s') in
    let here : slice_get (leaves_from (known ++ struct_leaves known s' ∷ []) ss) k ≡ Some (struct_leaves known s') =
    kept (known ++ struct_leaves known s' ∷ []) ss k (omega (arith, is, at, more))
    ∙ get_pushed_at known (struct_leaves known s') k (omega (arith, is, at)) in
    let one : s' ≡ s = cc in
    ap (λ o. unwrap_or o []) here ∙ same_fields known (s' ∷ ss) s'.fields fields'
    ∙ ap (λ x. flat_map (field_leaves (leaves_from known (s' ∷ ss))) x.fields) one
struct_at known (s' ∷ ss) (suc i) s n k is at h e =
    let more = length_pushed known (struct_leaves known s') in
    struct_at (known ++ struct_leaves known s' ∷ []) ss i s (suc n) k (omega (arith, is, more)) (omega (arith, at))
    (and_true_second (list_all (λ f. is_object n f.ty) s'.fields) (name_earlier (suc n) ss) h) e

-- ---- parts

pub leaves_of_int : (structs : List StructInfo) (t : IntType) → leaves_of structs (e.Int t) ≡ record { ty = t; marked = false } ∷ []
unfolding leaves_of
leaves_of_int structs t = refl

same_object_cells : (structs : List StructInfo) (ty : VarTy) → object_leaves (leaves_from [] structs) ty ≡ object_cells structs ty
unfolding leaves_of
same_object_cells structs (Int t) = refl
same_object_cells structs (Struct n) = refl
same_object_cells structs (Array elem count) = refl
same_object_cells structs (Pointer elem fixed) = refl

same_cells : (structs : List StructInfo) (fs : List Field) → flat_map (field_leaves (leaves_from [] structs)) fs ≡ flat_map (field_cells structs) fs
same_cells structs [] = refl
same_cells structs (f ∷ fs) =
    ap (λ xs. map (under f.marked) xs ++ flat_map (field_leaves (leaves_from [] structs)) fs) (same_object_cells structs f.ty)
    ∙ ap (λ xs. field_cells structs f ++ xs) (same_cells structs fs)

struct_from : (structs : List StructInfo) (n : ℕ) (s : StructInfo) → name_earlier 0 structs ≡ true → slice_get structs n ≡ Some s
    → leaves_of structs (e.Struct n) ≡ flat_map (field_leaves (leaves_from [] structs)) s.fields
unfolding leaves_of
struct_from structs n s h e = struct_at [] structs n s 0 n refl (omega arith) h e

-- a struct's cells are those of its fields, one after the other
pub leaves_of_struct : (structs : List StructInfo) (n : ℕ) (s : StructInfo) → name_earlier 0 structs ≡ true → n < length structs
    → s ≡ get_or structs n s
    → leaves_of structs (e.Struct n) ≡ flat_map (field_cells structs) s.fields
leaves_of_struct structs n s h lt e = struct_from structs n s h (get_at structs n s lt e) ∙ same_cells structs s.fields

-- its fields name earlier structs only
pub fields_earlier : (structs : List StructInfo) (from n : ℕ) (s : StructInfo) (k : ℕ) → k ≡ from + n → name_earlier from structs ≡ true
    → n < length structs → s ≡ get_or structs n s
    → list_all (λ f. is_object k f.ty) s.fields ≡ true
fields_earlier [] from n s k at h lt e = absurd (omega arith)
fields_earlier (s' ∷ ss) from zero s k at h lt e =
    let here = and_true_first (list_all (λ f. is_object from f.ty) s'.fields) (name_earlier (suc from) ss) h in
    let same : k ≡ from = omega arith in
    rw (same, e) here
fields_earlier (s' ∷ ss) from (suc n) s k at h lt e =
    fields_earlier ss (suc from) n s k (omega arith) (and_true_second (list_all (λ f. is_object from f.ty) s'.fields) (name_earlier (suc from) ss) h)
    (omega arith) e

-- ---- steps of the walk

-- a struct's fields are its cells
pub struct_starts : (structs : List StructInfo) (m : Bool) (n : ℕ) (elem : Elem) (s : StructInfo) (items : List Field) (before : List Leaf)
    → name_earlier 0 structs ≡ true → n < length structs
    → s ≡ get_or structs n s → elem ≡ e.Struct n → items ≡ s.fields
    → before ++ map (under m) (flat_map (field_cells structs) items) ≡ before ++ map (under m) (leaves_of structs elem)
struct_starts structs m n elem s items before h lt e is same =
    ap (λ xs. before ++ map (under m) xs) (ap (flat_map (field_cells structs)) same ∙ sym (leaves_of_struct structs n s h lt e) ∙ ap
    (leaves_of structs) (sym is))

-- a field names earlier structs only
pub field_object : (structs : List StructInfo) (n : ℕ) (s : StructInfo) (items : List Field) (i : ℕ) (f : Field) → name_earlier 0 structs ≡ true
    → n < length structs → s ≡ get_or structs n s
    → items ≡ s.fields → i < length items → f ≡ get_or items i f → is_object n f.ty ≡ true
field_object structs n s items i f h lt e same below item =
    all_at (λ f. is_object n f.ty) items i f
    (ap (list_all (λ f. is_object n f.ty)) same ∙ fields_earlier structs 0 n s n (omega arith) h lt e) below item

-- one field more
pub field_more : (structs : List StructInfo) (m : Bool) (fields : List Field) (i : ℕ) (f : Field) (secret : Bool)
    (before after whole : List Leaf) → i < length fields → f ≡ get_or fields i f
    → before ++ map (under m) (flat_map (field_cells structs) (drop i fields)) ≡ whole
    → secret ≡ (m || f.marked) → after ≡ before ++ map (under secret) (object_cells structs f.ty)
    → after ++ map (under m) (flat_map (field_cells structs) (drop (i + 1) fields)) ≡ whole
field_more structs m fields i f secret before after whole lt e so_far both is =
    let rest = map (under m) (flat_map (field_cells structs) (drop (i + 1) fields)) in
    let here = map (under secret) (object_cells structs f.ty) in
    let parts : map (under m) (flat_map (field_cells structs) (drop i fields)) ≡ here ++ rest =
    at_drop (λ fs. map (under m) (flat_map (field_cells structs) fs)) fields i f lt e
    ∙ map-append (under m) (field_cells structs f) (flat_map (field_cells structs) (drop (i + 1) fields))
    ∙ ap (λ xs. xs ++ rest) (under-under m f.marked (object_cells structs f.ty) ∙ ap (λ b. map (under b) (object_cells structs f.ty)) (sym both)) in
    ap (λ xs. xs ++ rest) is ∙ append_assoc before here rest ∙ ap (λ xs. before ++ xs) (sym parts) ∙ so_far

-- the cell of an integer
abbrev leaf_at : IntType → Bool → Leaf
leaf_at t m = record { ty = t; marked = m }

pub int_cells : (structs : List StructInfo) (m : Bool) (t : IntType) (elem : Elem) → elem ≡ e.Int t
    → leaf_at t m ∷ [] ≡ map (under m) (leaves_of structs elem)
int_cells structs m t elem is =
    ap (λ b. leaf_at t b ∷ []) (as_or_with_false m) ∙ sym (ap (λ x. map (under m) (leaves_of structs x)) is ∙ ap (map (under m)) (leaves_of_int structs t))

pub known_struct : (n k : ℕ) (elem : Elem) → is_elem n elem ≡ true → elem ≡ e.Struct k → k < n
known_struct n k elem h is =
    let here : is_elem n (e.Struct k) ≡ true = ap (is_elem n) (sym is) ∙ h in
    grind (arith, nat_tests, here)

-- one element of an array more
pub element_more : (m : Bool) (leaves : List Leaf) (count i : ℕ) (before after whole : List Leaf) → i < count
    → before ++ map (under m) (repeated (count - i) leaves) ≡ whole
    → after ≡ before ++ map (under m) leaves
    → after ++ map (under m) (repeated (count - (i + 1)) leaves) ≡ whole
element_more m leaves count i before after whole lt so_far is =
    let rest = map (under m) (repeated (count - (i + 1)) leaves) in
    let one : count - i ≡ suc (count - (i + 1)) = omega arith in
    let parts : map (under m) (repeated (count - i) leaves) ≡ map (under m) leaves ++ rest =
    ap (λ k. map (under m) (repeated k leaves)) one ∙ map-append (under m) leaves (repeated (count - (i + 1)) leaves) in
    ap (λ xs. xs ++ rest) is ∙ append_assoc before (map (under m) leaves) rest ∙ ap (λ xs. before ++ xs) (sym parts) ∙ so_far

-- how deep structs lie in an element at most
abbrev pub rank : Elem → ℕ
rank (e.Int t) = 0
rank (e.Struct n) = suc n

pub rank_below : (n : ℕ) (elem : Elem) → is_elem n elem ≡ true → rank elem ≤ n
rank_below n (e.Int t) h = omega arith
rank_below n (e.Struct k) h = grind (arith, nat_tests, h)

-- what is one of fewer structs is one of more
pub is_elem_more : (n k : ℕ) (elem : Elem) → n ≤ k → is_elem n elem ≡ true → is_elem k elem ≡ true
is_elem_more n k (e.Int t) le h = refl
is_elem_more n k (e.Struct m) le h = grind (arith, nat_tests, h)
