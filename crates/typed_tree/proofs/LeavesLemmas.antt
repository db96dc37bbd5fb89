-- The leaves of an object are those of its parts.
use Rattle.std.proofs.Common.{◌≡◌, ◌<◌, ◌+◌, ◌++◌, ◌∙◌, sym, ap, refl, ℕ, zero, suc, Bool, true, List, [], ◌∷◌, length, arith, Some}
use Rattle.std.specs.Prelude.{IsTrue, ◌&&◌, nat_lt, nat_le, slice_get, unwrap_or}
use Rattle.std.specs.List.{list_all, flat_map}
use Rattle.std.proofs.lemmas.Bool.Decides.{nat_tests}
use Rattle.pt_base.specs.declared.int_type.IntType.{IntType}
use Rattle.pt_base.proofs.Booleans.{both_hold, both_hold_first, both_hold_second}
use Rattle.pt_base.proofs.Lists.{length_pushed}
use Rattle.pt_base.proofs.Places.{get_before, get_pushed_at}
use Rattle.pt_tree.specs.declared.signature.Elem.{Elem}
use Rattle.pt_tree.specs.declared.signature.Elem.TheVariants as e
use Rattle.typed_tree.specs.declared.types.VarTy.{VarTy}
use Rattle.typed_tree.specs.declared.types.VarTy.TheVariants.{Int, Struct, Array, Pointer}
use Rattle.typed_tree.specs.declared.types.Field.{Field}
use Rattle.typed_tree.specs.declared.types.StructInfo.{StructInfo}
use Rattle.typed_tree.specs.Cells.{repeated, object_leaves, struct_leaves, leaves_from, leaves_of}
use Rattle.typed_tree.specs.TypeTests.{type_of_elem}
use Rattle.typed_tree.specs.WellFormed.{is_plain_type, is_small, field_sound, struct_sound, structs_sound}

pub leaves_of_int : (structs : List StructInfo) (t : IntType) → leaves_of structs (Int t) ≡ t ∷ []
unfolding leaves_of
leaves_of_int structs t = refl

pub leaves_of_pointer : (structs : List StructInfo) (elem : Elem) (fixed : Bool) → leaves_of structs (Pointer elem fixed) ≡ []
unfolding leaves_of
leaves_of_pointer structs elem fixed = refl

-- an array's are those of its element, so many times
pub leaves_of_array : (structs : List StructInfo) (elem : Elem) (count : ℕ) → leaves_of structs (Array elem count) ≡ repeated count (leaves_of structs (type_of_elem elem))
unfolding leaves_of
leaves_of_array structs (e.Int t) count = refl
leaves_of_array structs (e.Struct n) count = refl

-- what is known of earlier structs stays
pub kept : (known : List (List IntType)) (ss : List StructInfo) (k : ℕ) → k < length known → slice_get (leaves_from known ss) k ≡ slice_get known k
kept known [] k h = refl
kept known (s ∷ ss) k h =
    let more = length_pushed known (struct_leaves known s) in
    kept (known ++ struct_leaves known s ∷ []) ss k (omega (arith, h, more)) ∙ get_before known (struct_leaves known s ∷ []) k h

-- what names earlier structs alone has the same leaves
same_leaves : (known : List (List IntType)) (ss : List StructInfo) (ty : VarTy) → IsTrue (is_plain_type (length known) ty) → object_leaves (leaves_from known ss) ty ≡ object_leaves known ty
same_leaves known ss (Int t) h = refl
same_leaves known ss (Struct n) h = ap (λ o. unwrap_or o []) (kept known ss n (grind (arith, nat_tests, h)))
same_leaves known ss (Array (e.Int t) count) h = refl
same_leaves known ss (Array (e.Struct n) count) h =
    let below = both_hold_first (nat_lt n (length known)) (nat_le 1 count) h in
    ap (λ o. repeated count (unwrap_or o [])) (kept known ss n (grind (arith, nat_tests, below)))
same_leaves known ss (Pointer elem fixed) h = grind (arith, h)

-- the fields of a struct behind so many name earlier ones alone
abbrev pub names_earlier : ℕ → StructInfo → Bool
names_earlier earlier s = list_all (λ f. is_plain_type earlier f.ty) s.fields

-- the same of the structs of a list, of which so many stand before
abbrev pub all_name_earlier : ℕ → List StructInfo → Bool
all_name_earlier earlier [] = true
all_name_earlier earlier (s ∷ rest) = names_earlier earlier s && all_name_earlier (suc earlier) rest

same_fields : (known : List (List IntType)) (ss : List StructInfo) (fs : List Field) → IsTrue (list_all (λ f. is_plain_type (length known) f.ty) fs)
    → flat_map (λ f. object_leaves known f.ty) fs ≡ flat_map (λ f. object_leaves (leaves_from known ss) f.ty) fs
same_fields known ss [] h = refl
same_fields known ss (f ∷ fs) h =
    let plain = both_hold_first (is_plain_type (length known) f.ty) (list_all (λ f. is_plain_type (length known) f.ty) fs) h in
    let rest = same_fields known ss fs (both_hold_second (is_plain_type (length known) f.ty) (list_all (λ f. is_plain_type (length known) f.ty) fs) h) in
    ap (λ xs. xs ++ flat_map (λ f. object_leaves known f.ty) fs) (sym (same_leaves known ss f.ty plain))
    ∙ ap (λ xs. object_leaves (leaves_from known ss) f.ty ++ xs) rest

struct_at : (known : List (List IntType)) (ss : List StructInfo) (i : ℕ) (s : StructInfo) (n k : ℕ) → n ≡ length known → k ≡ n + i
    → IsTrue (all_name_earlier n ss) → slice_get ss i ≡ Some s
    → unwrap_or (slice_get (leaves_from known ss) k) [] ≡ flat_map (λ f. object_leaves (leaves_from known ss) f.ty) s.fields
struct_at known [] i s n k is at h e = grind (arith, e)
struct_at known (s' ∷ ss) zero s n k is at h e =
    let fields = both_hold_first (names_earlier n s') (all_name_earlier (suc n) ss) h in
    let fields' : IsTrue (list_all (λ f. is_plain_type (length known) f.ty) s'.fields) = rw is at fields in
    let more = length_pushed known (struct_leaves known s') in
    let here : slice_get (leaves_from (known ++ struct_leaves known s' ∷ []) ss) k ≡ Some (struct_leaves known s') =
    kept (known ++ struct_leaves known s' ∷ []) ss k (omega (arith, is, at, more)) ∙ get_pushed_at known (struct_leaves known s') k (omega (arith, is, at)) in
    let one : s' ≡ s = grind (arith, e) in
    ap (λ o. unwrap_or o []) here ∙ same_fields known (s' ∷ ss) s'.fields fields' ∙ ap (λ x. flat_map (λ f. object_leaves (leaves_from known (s' ∷ ss)) f.ty) x.fields) one
struct_at known (s' ∷ ss) (suc i) s n k is at h e =
    let more = length_pushed known (struct_leaves known s') in
    struct_at (known ++ struct_leaves known s' ∷ []) ss i s (suc n) k (omega (arith, is, more)) (omega (arith, at)) (both_hold_second (names_earlier n s') (all_name_earlier (suc n) ss) h) e

-- a struct's are those of its fields, one after the other
pub leaves_of_earlier : (structs : List StructInfo) (n : ℕ) (s : StructInfo) → IsTrue (all_name_earlier 0 structs) → slice_get structs n ≡ Some s → leaves_of structs (Struct n) ≡ flat_map (λ f. leaves_of structs f.ty) s.fields
unfolding leaves_of
leaves_of_earlier structs n s h e = struct_at [] structs n s 0 n refl (omega arith) h e

fields_earlier : (all : List StructInfo) (n : ℕ) (fs : List Field) → IsTrue (list_all (field_sound all n) fs) → IsTrue (list_all (λ f. is_plain_type n f.ty) fs)
fields_earlier all n [] h = refl
fields_earlier all n (f ∷ fs) h =
    let here = both_hold_first (field_sound all n f) (list_all (field_sound all n) fs) h in
    both_hold (is_plain_type n f.ty) (list_all (λ f. is_plain_type n f.ty) fs) (both_hold_first (is_plain_type n f.ty) (is_small all f.ty) here)
    (fields_earlier all n fs (both_hold_second (field_sound all n f) (list_all (field_sound all n) fs) h))

structs_earlier : (all : List StructInfo) (n : ℕ) (ss : List StructInfo) → IsTrue (structs_sound all n ss) → IsTrue (all_name_earlier n ss)
structs_earlier all n [] h = refl
structs_earlier all n (s ∷ ss) h =
    let sound = both_hold_first (struct_sound all n s) (structs_sound all (suc n) ss) h in
    both_hold (names_earlier n s) (all_name_earlier (suc n) ss) (fields_earlier all n s.fields (both_hold_second (nat_le 1 (length s.fields)) (list_all (field_sound all n) s.fields) sound))
    (structs_earlier all (suc n) ss (both_hold_second (struct_sound all n s) (structs_sound all (suc n) ss) h))

-- the same of structs that are sound
pub leaves_of_struct : (structs : List StructInfo) (n : ℕ) (s : StructInfo) → IsTrue (structs_sound structs 0 structs) → slice_get structs n ≡ Some s → leaves_of structs (Struct n) ≡ flat_map (λ f. leaves_of structs f.ty) s.fields
leaves_of_struct structs n s h e = leaves_of_earlier structs n s (structs_earlier structs 0 structs h) e
