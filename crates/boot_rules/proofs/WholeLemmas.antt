-- What structs of one field come to has the same integers, and stands below them.
use Rattle.std.proofs.Common.{◌≡◌, ◌≤◌, ◌<◌, ◌+◌, ◌*◌, ◌∙◌, ◌++◌, append-nil, sym, ap, subst, refl, ℕ, zero, suc, Bool, true, false, List, [], ◌∷◌, length, arith, get_or, Option, Some, None}
use Rattle.std.specs.Prelude.{All, IfSome, IsTrue, if◌then◌else◌, nat_eq, nat_le, nat_lt, slice_get, unwrap_or}
use Rattle.std.specs.List.{list_all, flat_map}
use Rattle.std.proofs.lemmas.Bool.Decides.{nat_tests}
use Rattle.std.proofs.lemmas.List.{get_or_append_left, get_or_past, get_or_push}
use Rattle.std.proofs.lemmas.Option.{none-some, same_Some, slice_get-get_or, slice_get_past}
use Rattle.pt_base.specs.declared.int_type.IntType.{IntType}
use Rattle.pt_base.proofs.Booleans.{both_hold, both_hold_first, both_hold_second}
use Rattle.pt_base.proofs.Lists.{length_pushed}
use Rattle.pt_base.proofs.Places.{get_before, get_pushed_at}
use Rattle.pt_tree.specs.declared.signature.Elem.TheVariants as e
use Rattle.typed_tree.specs.declared.types.VarTy.{VarTy}
use Rattle.typed_tree.specs.declared.types.VarTy.TheVariants.{Int, Struct, Array, Pointer}
use Rattle.typed_tree.specs.declared.types.Field.{Field}
use Rattle.typed_tree.specs.declared.types.StructInfo.{StructInfo}
use Rattle.typed_tree.specs.Cells.{repeated, object_leaves, struct_leaves, leaves_from, leaves_of}
use Rattle.typed_tree.specs.Sizes.{fields_of}
use Rattle.typed_tree.specs.WellFormed.{is_plain_type, structs_sound}
use Rattle.typed_tree.proofs.LeavesLemmas.{leaves_of_struct}
use Rattle.boot_rules.specs.declared.shape.Shape.{Shape}
use Rattle.boot_rules.specs.Ranks.{rank}
use Rattle.boot_rules.specs.Shapes.{no_shape, shape_at, only_of, whole, whole_struct, shape_of, shapes_from}
use Rattle.boot_rules.specs.Structs.{all_name_earlier, name_earlier}
use Rattle.boot_rules.proofs.StructLemmas.{earlier_if_sound}

-- ---- types that name earlier structs

plain_more : (k n : ℕ) (ty : VarTy) → k ≤ n → IsTrue (is_plain_type k ty) → IsTrue (is_plain_type n ty)
plain_more k n (Int t) le h = refl
plain_more k n (Struct m) le h = grind (arith, nat_tests)
plain_more k n (Array (e.Int t) count) le h = h
plain_more k n (Array (e.Struct m) count) le h =
    let below = both_hold_first (nat_lt m k) (nat_le 1 count) h in
    let more : IsTrue (nat_lt m n) = grind (arith, nat_tests, below) in
    both_hold (nat_lt m n) (nat_le 1 count) more (both_hold_second (nat_lt m k) (nat_le 1 count) h)
plain_more k n (Pointer elem fixed) le h = h

plain_below : (n : ℕ) (ty : VarTy) → IsTrue (is_plain_type n ty) → rank ty < 4 * n + 3
plain_below n (Int t) h = omega arith
plain_below n (Struct m) h = let lt : m < n = grind (arith, nat_tests) in omega (arith, lt)
plain_below n (Array (e.Int t) count) h = omega arith
plain_below n (Array (e.Struct m) count) h =
    let below = both_hold_first (nat_lt m n) (nat_le 1 count) h in
    let lt : m < n = grind (arith, nat_tests, below) in
    omega (arith, lt)
plain_below n (Pointer elem fixed) h = omega arith

-- more structs behind change nothing
same_before : (known more : List (List IntType)) (k : ℕ) (ty : VarTy) → k ≤ length known → IsTrue (is_plain_type k ty) → object_leaves (known ++ more) ty ≡ object_leaves known ty
same_before known more k (Int t) le h = refl
same_before known more k (Struct m) le h =
    let lt : m < k = grind (arith, nat_tests) in
    ap (λ o. unwrap_or o []) (get_before known more m (omega (arith, lt, le)))
same_before known more k (Array (e.Int t) count) le h = refl
same_before known more k (Array (e.Struct m) count) le h =
    let below = both_hold_first (nat_lt m k) (nat_le 1 count) h in
    let lt : m < k = grind (arith, nat_tests, below) in
    ap (λ o. repeated count (unwrap_or o [])) (get_before known more m (omega (arith, lt, le)))
same_before known more k (Pointer elem fixed) le h = refl

-- ---- the shapes so far

-- the type has the integers of the struct of this number, and names structs before it
record IsWhole (known : List (List IntType)) (n : ℕ) (ty : VarTy) : Type 0 where
  same : object_leaves known ty ≡ unwrap_or (slice_get known n) []
  plain : IsTrue (is_plain_type n ty)

abbrev AreWhole : List (List IntType) → List Shape → Type 0
AreWhole known shapes = (n : ℕ) (ty : VarTy) → (shape_at shapes n).only ≡ Some ty → IsWhole known n ty

-- of an object that names known structs
record IsSame (known : List (List IntType)) (ty whole : VarTy) : Type 0 where
  same : object_leaves known whole ≡ object_leaves known ty
  plain : IsTrue (is_plain_type (length known) whole)

same_struct : (known : List (List IntType)) (shapes : List Shape) (m : ℕ) → AreWhole known shapes → m < length known → IsSame known (Struct m) (whole_struct shapes m)
same_struct known shapes m h lt = go (shape_at shapes m).only refl
  where
    go : (o : Option VarTy) → (shape_at shapes m).only ≡ o → IsSame known (Struct m) (unwrap_or o (Struct m))
    go None is = record { same = refl; plain = grind (arith, nat_tests) }
    go (Some ty) is = let w = h m ty is in record { same = w.same; plain = plain_more m (length known) ty (omega arith) w.plain }

same_whole : (known : List (List IntType)) (shapes : List Shape) (ty : VarTy) → AreWhole known shapes → IsTrue (is_plain_type (length known) ty) → IsSame known ty (whole shapes ty)
same_whole known shapes (Int t) h plain = record { same = refl; plain = plain }
same_whole known shapes (Struct m) h plain = same_struct known shapes m h (grind (arith, nat_tests))
same_whole known shapes (Array (e.Int t) count) h plain = record { same = refl; plain = plain }
same_whole known shapes (Array (e.Struct m) count) h plain = go (nat_eq count 1) refl
  where
    go : (b : Bool) → nat_eq count 1 ≡ b → IsSame known (Array (e.Struct m) count) (if b then whole_struct shapes m else Array (e.Struct m) count)
    go true one =
        let below = both_hold_first (nat_lt m (length known)) (nat_le 1 count) plain in
        let s = same_struct known shapes m h (grind (arith, nat_tests, below)) in
        let is : 1 ≡ count = grind (arith, nat_tests, one) in
        record {
          same = s.same ∙ sym (append-nil (unwrap_or (slice_get known m) [])) ∙ ap (λ k. repeated k (unwrap_or (slice_get known m) [])) is;
          plain = s.plain;
        }
    go false more = record { same = refl; plain = plain }
same_whole known shapes (Pointer elem fixed) h plain = record { same = refl; plain = plain }

-- what the fields of the next struct come to, where there is one
only_whole : (known : List (List IntType)) (shapes : List Shape) (fields : List Field) (ty : VarTy) → AreWhole known shapes → IsTrue (name_earlier (length known) fields) → only_of shapes fields ≡ Some ty →
    (object_leaves known ty ≡ flat_map (λ f. object_leaves known f.ty) fields) × IsTrue (is_plain_type (length known) ty)
only_whole known shapes [] ty h earlier is = absurd (none-some ty is)
only_whole known shapes (f ∷ []) ty h earlier is =
    let here = both_hold_first (is_plain_type (length known) f.ty) true earlier in
    let s = same_whole known shapes f.ty h here in
    let one : whole shapes f.ty ≡ ty = same_Some (whole shapes f.ty) ty is in
    (ap (object_leaves known) (sym one) ∙ s.same ∙ sym (append-nil (object_leaves known f.ty)), subst (λ t. IsTrue (is_plain_type (length known) t)) one s.plain)
only_whole known shapes (f ∷ (g ∷ rest)) ty h earlier is = absurd (none-some ty is)

-- one more struct
one_more : (known : List (List IntType)) (shapes : List Shape) (s : StructInfo) → length shapes ≡ length known → AreWhole known shapes → IsTrue (name_earlier (length known) s.fields) →
    AreWhole (known ++ struct_leaves known s ∷ []) (shapes ++ shape_of shapes s.fields ∷ [])
one_more known shapes s long h earlier n ty is = found (nat_lt n (length known)) refl (nat_eq n (length known)) refl
  where
    found : (b : Bool) → nat_lt n (length known) ≡ b → (c : Bool) → nat_eq n (length known) ≡ c → IsWhole (known ++ struct_leaves known s ∷ []) n ty
    found true before c k =
        let lt : n < length known = grind (arith, nat_tests, before) in
        let old : (shape_at shapes n).only ≡ Some ty = ap (λ (x : Shape). x.only) (sym (get_or_append_left shapes (shape_of shapes s.fields ∷ []) no_shape n (omega (arith, lt, long)))) ∙ is in
        let w = h n ty old in
        record {
          same = same_before known (struct_leaves known s ∷ []) n ty (omega (arith, lt)) w.plain ∙ w.same ∙ ap (λ o. unwrap_or o []) (sym (get_before known (struct_leaves known s ∷ []) n lt));
          plain = w.plain;
        }
    found false behind true here =
        let eq : n ≡ length known = grind (arith, nat_tests, here) in
        let new : only_of shapes s.fields ≡ Some ty = ap (λ (x : Shape). x.only) (sym (get_or_push shapes (shape_of shapes s.fields) no_shape n (omega (arith, eq, long)))) ∙ is in
        let w = only_whole known shapes s.fields ty h earlier new in
        record {
          same = same_before known (struct_leaves known s ∷ []) (length known) ty (omega arith) w.1 ∙ w.0 ∙ ap (λ o. unwrap_or o []) (sym (get_pushed_at known (struct_leaves known s) n eq));
          plain = subst (λ k. IsTrue (is_plain_type k ty)) (sym eq) w.1;
        }
    found false behind false other =
        let gt : length known < n = grind (arith, nat_tests, behind, other) in
        let more = length_pushed shapes (shape_of shapes s.fields) in
        let none : (shape_at (shapes ++ shape_of shapes s.fields ∷ []) n).only ≡ None = ap (λ (x : Shape). x.only) (get_or_past (shapes ++ shape_of shapes s.fields ∷ []) n no_shape (omega (arith, gt, more, long))) in
        absurd (none-some ty (sym none ∙ is))

all_whole : (known : List (List IntType)) (shapes : List Shape) (structs : List StructInfo) (k : ℕ) → k ≡ length known → length shapes ≡ length known → AreWhole known shapes → IsTrue (all_name_earlier k structs) →
    AreWhole (leaves_from known structs) (shapes_from shapes structs)
all_whole known shapes [] k at long h earlier = h
all_whole known shapes (s ∷ structs) k at long h earlier =
    let here : IsTrue (name_earlier (length known) s.fields) = subst (λ n. IsTrue (name_earlier n s.fields)) at (both_hold_first (name_earlier k s.fields) (all_name_earlier (suc k) structs) earlier) in
    let more = length_pushed known (struct_leaves known s) in
    let further = length_pushed shapes (shape_of shapes s.fields) in
    all_whole (known ++ struct_leaves known s ∷ []) (shapes ++ shape_of shapes s.fields ∷ []) structs (suc k) (omega (arith, at, more)) (omega (arith, long, more, further))
    (one_more known shapes s long h here) (both_hold_second (name_earlier k s.fields) (all_name_earlier (suc k) structs) earlier)

none_whole : AreWhole [] []
none_whole n ty is = absurd (none-some ty is)

-- ---- what is known of structs whose fields name earlier ones

pub only_leaves : (structs : List StructInfo) (n : ℕ) (ty : VarTy) → IsTrue (all_name_earlier 0 structs) → (shape_at (shapes_from [] structs) n).only ≡ Some ty → leaves_of structs ty ≡ leaves_of structs (Struct n)
unfolding leaves_of
only_leaves structs n ty h is = (all_whole [] [] structs 0 refl refl none_whole h n ty is).same

pub only_below : (structs : List StructInfo) (n : ℕ) (ty : VarTy) → IsTrue (all_name_earlier 0 structs) → (shape_at (shapes_from [] structs) n).only ≡ Some ty → rank ty < rank (Struct n)
only_below structs n ty h is =
    let below = plain_below n ty (all_whole [] [] structs 0 refl refl none_whole h n ty is).plain in
    omega (arith, below)

-- each field of a struct stands below it
field_plain : (n : ℕ) (fields : List Field) (i : ℕ) (d : Field) → IsTrue (list_all (λ f. is_plain_type n f.ty) fields) → i < length fields → IsTrue (is_plain_type n (get_or fields i d).ty)
field_plain n [] i d h within = absurd (omega arith)
field_plain n (f ∷ fields) zero d h within = both_hold_first (is_plain_type n f.ty) (list_all (λ x. is_plain_type n x.ty) fields) h
field_plain n (f ∷ fields) (suc i) d h within = field_plain n fields i d (both_hold_second (is_plain_type n f.ty) (list_all (λ x. is_plain_type n x.ty) fields) h) (omega arith)

struct_plain : (k : ℕ) (structs : List StructInfo) (m n : ℕ) → n ≡ k + m → IsTrue (all_name_earlier k structs) → IsTrue (list_all (λ f. is_plain_type n f.ty) (fields_of structs m))
struct_plain k [] m n at h = refl
struct_plain k (s ∷ structs) zero n at h =
    let here = both_hold_second (nat_le 1 (length s.fields)) (list_all (λ (f : Field). is_plain_type k f.ty) s.fields) (both_hold_first (name_earlier k s.fields) (all_name_earlier (suc k) structs) h) in
    let same : k ≡ n = omega (arith, at) in
    subst (λ j. IsTrue (list_all (λ (f : Field). is_plain_type j f.ty) s.fields)) same here
struct_plain k (s ∷ structs) (suc m) n at h = struct_plain (suc k) structs m n (omega (arith, at)) (both_hold_second (name_earlier k s.fields) (all_name_earlier (suc k) structs) h)

pub field_below : (structs : List StructInfo) (n i : ℕ) (d : Field) → IsTrue (all_name_earlier 0 structs) → i < length (fields_of structs n) → rank (get_or (fields_of structs n) i d).ty < 4 * n + 3
field_below structs n i d h within = plain_below n (get_or (fields_of structs n) i d).ty (field_plain n (fields_of structs n) i d (struct_plain 0 structs n n (omega arith) h) within)

-- ---- a struct's integers are those of its fields

leaves_long : (known : List (List IntType)) (structs : List StructInfo) → length (leaves_from known structs) ≡ length known + length structs
leaves_long known [] = omega arith
leaves_long known (s ∷ structs) =
    let rest = leaves_long (known ++ struct_leaves known s ∷ []) structs in
    let more = length_pushed known (struct_leaves known s) in
    omega (arith, rest, more)

no_leaves : (structs : List StructInfo) (n : ℕ) → length structs ≤ n → leaves_of structs (Struct n) ≡ []
unfolding leaves_of
no_leaves structs n behind =
    let long = leaves_long [] structs in
    ap (λ o. unwrap_or o []) (slice_get_past (leaves_from [] structs) n (omega (arith, long, behind)))

abbrev no_struct : StructInfo
no_struct = record { name = []; fields = [] }

pub struct_by_fields : (structs : List StructInfo) (n : ℕ) → IsTrue (structs_sound structs 0 structs) → leaves_of structs (Struct n) ≡ flat_map (λ f. leaves_of structs f.ty) (fields_of structs n)
struct_by_fields structs n h = go (nat_lt n (length structs)) refl
  where
    go : (b : Bool) → nat_lt n (length structs) ≡ b → leaves_of structs (Struct n) ≡ flat_map (λ f. leaves_of structs f.ty) (fields_of structs n)
    go true before = leaves_of_struct structs n (get_or structs n no_struct) h (slice_get-get_or structs n no_struct (grind (arith, nat_tests, before)))
    go false before =
        let behind : length structs ≤ n = grind (arith, nat_tests, before) in
        no_leaves structs n behind ∙ ap (λ (x : StructInfo). flat_map (λ (f : Field). leaves_of structs f.ty) x.fields) (sym (get_or_past structs n no_struct behind))

-- ---- what the code asks of a struct

abbrev HasOnly : List StructInfo → ℕ → Option VarTy → Type 0
HasOnly structs n only = IfSome only (λ ty. leaves_of structs ty ≡ leaves_of structs (Struct n)) × IfSome only (λ ty. rank ty < rank (Struct n))

pub only_facts : (structs : List StructInfo) (shapes : List Shape) (n : ℕ) (only : Option VarTy) → IsTrue (structs_sound structs 0 structs) → shapes ≡ shapes_from [] structs → only ≡ (shape_at shapes n).only → HasOnly structs n only
only_facts structs shapes n only sound kept is = go only (is ∙ ap (λ xs. (shape_at xs n).only) kept)
  where
    go : (o : Option VarTy) → o ≡ (shape_at (shapes_from [] structs) n).only → HasOnly structs n o
    go None e = (tt, tt)
    go (Some ty) e = (only_leaves structs n ty (earlier_if_sound structs sound) (sym e), only_below structs n ty (earlier_if_sound structs sound) (sym e))

pub fields_below : (structs : List StructInfo) (n : ℕ) (fields : List Field) → IsTrue (structs_sound structs 0 structs) → fields ≡ fields_of structs n → All (λ f. rank f.ty < 4 * n + 3) fields
fields_below structs n fields sound is = subst (All (λ (f : Field). rank f.ty < 4 * n + 3)) (sym is) (λ i d within. field_below structs n i d (earlier_if_sound structs sound) within)
