-- Where fields lie, and that nothing is empty: an array has no more elements than integers.
use Rattle.std.proofs.Common.{◌≡◌, ◌∙◌, ◌≤◌, ◌<◌, ◌^◌, ℕ, zero, suc, ◌+◌, refl, ap, sym, subst, arith, Bool, false, Option, Some, None, List, [], ◌∷◌, ◌++◌, length, length-append}
use Rattle.std.specs.Prelude.{IsTrue, ◌&&◌, slice_get, get_or, take, nat_le}
use Rattle.std.specs.List.{list_all, flat_map}
use Rattle.std.proofs.lemmas.Bool.Decides.{nat_tests}
use Rattle.std.proofs.lemmas.Option.{get_or_from_slice_get, slice_get-get_or}
use Rattle.pt_base.specs.declared.int_type.IntType.{IntType}
use Rattle.pt_base.specs.declared.int_type.IntType.TheVariants as i
use Rattle.pt_base.proofs.Booleans.{both_hold_first, both_hold_second, false_not_true}
use Rattle.pt_base.proofs.Numbers.{below_holds}
use Rattle.pt_tree.specs.declared.signature.Elem.{Elem}
use Rattle.pt_tree.specs.declared.signature.Elem.TheVariants as e
use Rattle.typed_tree.specs.declared.types.VarTy.{VarTy}
use Rattle.typed_tree.specs.declared.types.VarTy.TheVariants.{Int, Struct, Array, Pointer}
use Rattle.typed_tree.specs.declared.types.Field.{Field}
use Rattle.typed_tree.specs.declared.types.StructInfo.{StructInfo}
use Rattle.typed_tree.specs.Cells.{repeated, leaves_of}
use Rattle.typed_tree.specs.Sizes.{fields_cells, sizes_of, fields_of}
use Rattle.typed_tree.specs.TypeTests.{type_of_elem}
use Rattle.typed_tree.specs.WellFormed.{is_plain_type, is_variable_type, is_small, field_sound, struct_sound, structs_sound}
use Rattle.typed_tree.specs.WellFormedExpression.{is_elem}
use Rattle.typed_tree.proofs.LeavesLemmas.{leaves_of_int, leaves_of_array, leaves_of_struct}
use Rattle.source_meaning.proofs.SizeLemmas.{sizes}
use Rattle.pt_core.specs.Types.{field_type}
use Rattle.pt_core.specs.Values.{offset_in}
use Rattle.pt_core.specs.WellFormedExpression.{is_field}
use Rattle.core_soundness_law.specs.Fits.{LieAt, BeginsWith}
use Rattle.core_soundness_law.proofs.Integers.{begins_own, lies_behind}

-- ---- lists

none_or : {A : Type 0} (xs : List A) (k : ℕ) (y : A) → slice_get xs k ≡ None → get_or xs k y ≡ y
none_or [] k y h = refl
none_or (z ∷ zs) zero y h = cc
none_or (z ∷ zs) (suc k) y h = none_or zs k y h

pub all_at : {A : Type 0} (P : A → Bool) (xs : List A) (k : ℕ) (x : A) → slice_get xs k ≡ Some x → IsTrue (list_all P xs) → IsTrue (P x)
all_at P [] k x is h = cc
all_at P (z ∷ zs) zero x is h = let same : z ≡ x = inner is in subst (λ w. IsTrue (P w)) same (both_hold_first (P z) (list_all P zs) h)
  where
    inner : Some z ≡ Some x → z ≡ x
    inner e = cc
all_at P (z ∷ zs) (suc k) x is h = all_at P zs k x is (both_hold_second (P z) (list_all P zs) h)

-- ---- fields

field_lies : (structs : List StructInfo) (fs : List Field) (k : ℕ) (x : Field) → slice_get fs k ≡ Some x →
    LieAt (flat_map (λ f. leaves_of structs f.ty) fs) (fields_cells (sizes_of structs) (take k fs)) (leaves_of structs x.ty)
field_lies structs [] k x is = cc
field_lies structs (f ∷ fs) zero x is =
    let same : f ≡ x = inner is in
    subst (λ (z : Field). BeginsWith (leaves_of structs f.ty ++ flat_map (λ (g : Field). leaves_of structs g.ty) fs) (leaves_of structs z.ty)) same
    (begins_own (leaves_of structs f.ty) (flat_map (λ (g : Field). leaves_of structs g.ty) fs))
  where
    inner : Some f ≡ Some x → f ≡ x
    inner e = cc
field_lies structs (f ∷ fs) (suc k) x is =
    subst (λ m. LieAt (leaves_of structs f.ty ++ flat_map (λ (g : Field). leaves_of structs g.ty) fs) (m + fields_cells (sizes_of structs) (take k fs)) (leaves_of structs x.ty))
    (sym (sizes structs f.ty))
    (lies_behind (leaves_of structs f.ty) (flat_map (λ (g : Field). leaves_of structs g.ty) fs) (fields_cells (sizes_of structs) (take k fs)) (leaves_of structs x.ty) (field_lies structs fs k x is))

abbrev fields_in : StructInfo → List Field
fields_in s = s.fields

abbrev no_struct : StructInfo
no_struct = record { name = []; fields = [] }

-- a field of a struct: the struct and the field
pub record FieldOf (structs : List StructInfo) (n k : ℕ) : Type 0 where
  pub struct_ : StructInfo
  pub field : Field
  pub is_struct : slice_get structs n ≡ Some struct_
  pub fields : fields_of structs n ≡ struct_.fields
  pub is_field : slice_get struct_.fields k ≡ Some field
  pub typed : field_type structs (Struct n) k ≡ field.ty

abbrev no_field : Field
no_field = record { name = []; ty = Int i.Int; marked = false }

abbrev type_in_field : Field → VarTy
type_in_field x = x.ty

pub field_of : (structs : List StructInfo) (n k : ℕ) → IsTrue (is_field structs (Struct n) k) → FieldOf structs n k
field_of structs n k h = at_struct (slice_get structs n) refl
  where
    less : k < length (fields_of structs n)
    less = below_holds k (length (fields_of structs n)) h

    at_struct : (o : Option StructInfo) → slice_get structs n ≡ o → FieldOf structs n k
    at_struct None e =
        let none : fields_of structs n ≡ [] = ap fields_in (none_or structs n no_struct e) in
        let no : length (fields_of structs n) ≡ 0 = ap length none in absurd (omega (arith, less, no))
    at_struct (Some s) e =
        let fs : fields_of structs n ≡ s.fields = ap fields_in (get_or_from_slice_get structs n s no_struct e) in
        let long : length (fields_of structs n) ≡ length s.fields = ap length fs in
        record {
          struct_ = s;
          field = get_or s.fields k no_field;
          is_struct = e;
          fields = fs;
          is_field = slice_get-get_or s.fields k no_field (omega (arith, less, long));
          typed = ap (λ (zs : List Field). type_in_field (get_or zs k no_field)) fs;
        }

-- a field lies in its object
pub field_in : (structs : List StructInfo) (n k : ℕ) → IsTrue (structs_sound structs 0 structs) → IsTrue (is_field structs (Struct n) k) →
    LieAt (leaves_of structs (Struct n)) (offset_in structs (Struct n) k) (leaves_of structs (field_type structs (Struct n) k))
field_in structs n k sound h =
    let of : FieldOf structs n k = field_of structs n k h in
    subst (λ u. LieAt (leaves_of structs (Struct n)) (offset_in structs (Struct n) k) (leaves_of structs u)) (sym of.typed)
    (subst (λ zs. LieAt (leaves_of structs (Struct n)) (fields_cells (sizes_of structs) (take k zs)) (leaves_of structs of.field.ty)) (sym of.fields)
    (subst (λ ts. LieAt ts (fields_cells (sizes_of structs) (take k of.struct_.fields)) (leaves_of structs of.field.ty)) (sym (leaves_of_struct structs n of.struct_ sound of.is_struct))
    (field_lies structs of.struct_.fields k of.field of.is_field)))

-- ---- sound structs

struct_at : (all ss : List StructInfo) (m i : ℕ) (s : StructInfo) → IsTrue (structs_sound all m ss) → slice_get ss i ≡ Some s → IsTrue (struct_sound all (m + i) s)
struct_at all [] m i s h is = cc
struct_at all (x ∷ ss) m zero s h is =
    let same : x ≡ s = inner is in
    subst (λ (z : StructInfo). IsTrue (struct_sound all (m + 0) z)) same
    (subst (λ j. IsTrue (struct_sound all j x)) (plus_zero m) (both_hold_first (struct_sound all m x) (structs_sound all (suc m) ss) h))
  where
    inner : Some x ≡ Some s → x ≡ s
    inner e = cc

    plus_zero : (j : ℕ) → j ≡ j + 0
    plus_zero j = omega arith
struct_at all (x ∷ ss) m (suc i) s h is =
    subst (λ j. IsTrue (struct_sound all j s)) (moved m i) (struct_at all ss (suc m) i s (both_hold_second (struct_sound all m x) (structs_sound all (suc m) ss) h) is)
  where
    moved : (m i : ℕ) → suc m + i ≡ m + suc i
    moved m i = omega arith

pub sound_at : (structs : List StructInfo) (n : ℕ) (s : StructInfo) → IsTrue (structs_sound structs 0 structs) → slice_get structs n ≡ Some s → IsTrue (struct_sound structs n s)
sound_at structs n s h is = subst (λ j. IsTrue (struct_sound structs j s)) (plus n) (struct_at structs structs 0 n s h is)
  where
    plus : (n : ℕ) → 0 + n ≡ n
    plus n = omega arith

-- ---- nothing is empty

pub many : (count : ℕ) (ts : List IntType) → 1 ≤ length ts → count ≤ length (repeated count ts)
many zero ts h = omega arith
many (suc count) ts h = let long = length-append ts (repeated count ts) in let rest = many count ts h in omega (arith, long, rest, h)

abbrev HasLeaf : List StructInfo → VarTy → Type 0
HasLeaf structs ty = 1 ≤ length (leaves_of structs ty)

leaf_of_elem : (structs : List StructInfo) (n : ℕ) → ((m : ℕ) → m < n → HasLeaf structs (Struct m)) → (elem : Elem) → IsTrue (is_elem n (Some elem)) → HasLeaf structs (type_of_elem elem)
leaf_of_elem structs n known (e.Int t) h = let one : length (leaves_of structs (Int t)) ≡ 1 = ap length (leaves_of_int structs t) in omega (arith, one)
leaf_of_elem structs n known (e.Struct m) h = known m (below_holds m n h)

leaf_of_plain : (structs : List StructInfo) (n : ℕ) → ((m : ℕ) → m < n → HasLeaf structs (Struct m)) → (ty : VarTy) → IsTrue (is_plain_type n ty) → HasLeaf structs ty
leaf_of_plain structs n known (Int t) h = let one : length (leaves_of structs (Int t)) ≡ 1 = ap length (leaves_of_int structs t) in omega (arith, one)
leaf_of_plain structs n known (Struct m) h = known m (below_holds m n h)
leaf_of_plain structs n known (Array elem count) h =
    let item : HasLeaf structs (type_of_elem elem) = leaf_of_elem structs n known elem (both_hold_first (is_elem n (Some elem)) (nat_le 1 count) h) in
    let some : IsTrue (nat_le 1 count) = both_hold_second (is_elem n (Some elem)) (nat_le 1 count) h in
    let one : 1 ≤ count = at_least count some in
    let all : length (leaves_of structs (Array elem count)) ≡ length (repeated count (leaves_of structs (type_of_elem elem))) = ap length (leaves_of_array structs elem count) in
    let long = many count (leaves_of structs (type_of_elem elem)) item in omega (arith, one, all, long)
  where
    at_least : (count : ℕ) → IsTrue (nat_le 1 count) → 1 ≤ count
    at_least count h = grind (arith, nat_tests)
leaf_of_plain structs n known (Pointer elem fixed) h = false_not_true h

leaf_of_struct : (structs : List StructInfo) → IsTrue (structs_sound structs 0 structs) → (n : ℕ) → ((m : ℕ) → m < n → HasLeaf structs (Struct m)) → (s : StructInfo) → slice_get structs n ≡ Some s → HasLeaf structs (Struct n)
leaf_of_struct structs sound n known s is = go s.fields refl (sound_at structs n s sound is)
  where
    all : leaves_of structs (Struct n) ≡ flat_map (λ (f : Field). leaves_of structs f.ty) s.fields
    all = leaves_of_struct structs n s sound is

    go : (fs : List Field) → s.fields ≡ fs → IsTrue (nat_le 1 (length s.fields) && list_all (field_sound structs n) s.fields) → HasLeaf structs (Struct n)
    go [] e h = let some : IsTrue (nat_le 1 (length s.fields)) = both_hold_first (nat_le 1 (length s.fields)) (list_all (field_sound structs n) s.fields) h in
        let long : length s.fields ≡ 0 = ap length e in absurd (too_few (length s.fields) some long)
      where
        too_few : (k : ℕ) → IsTrue (nat_le 1 k) → k ≡ 0 → ⊥
        too_few k h e = grind (arith, nat_tests)
    go (f ∷ fs) e h =
        let fits : IsTrue (list_all (field_sound structs n) (f ∷ fs)) = subst (λ zs. IsTrue (list_all (field_sound structs n) zs)) e (both_hold_second (nat_le 1 (length s.fields)) (list_all (field_sound structs n) s.fields) h) in
        let one : IsTrue (field_sound structs n f) = both_hold_first (field_sound structs n f) (list_all (field_sound structs n) fs) fits in
        let first : HasLeaf structs f.ty = leaf_of_plain structs n known f.ty (both_hold_first (is_plain_type n f.ty) (is_small structs f.ty) one) in
        let long : length (leaves_of structs (Struct n)) ≡ length (leaves_of structs f.ty ++ flat_map (λ (g : Field). leaves_of structs g.ty) fs) =
        ap length (all ∙ ap (λ zs. flat_map (λ (g : Field). leaves_of structs g.ty) zs) e) in
        let sum = length-append (leaves_of structs f.ty) (flat_map (λ (g : Field). leaves_of structs g.ty) fs) in omega (arith, first, long, sum)

leaves_below : (structs : List StructInfo) → IsTrue (structs_sound structs 0 structs) → (bound n : ℕ) → n < bound → n < length structs → HasLeaf structs (Struct n)
leaves_below structs sound zero n h low = absurd (omega (arith, h))
leaves_below structs sound (suc bound) n h low =
    leaf_of_struct structs sound n (λ m less. leaves_below structs sound bound m (omega (arith, h, less)) (omega (arith, low, less))) (get_or structs n no_struct) (slice_get-get_or structs n no_struct low)

pub struct_leaf : (structs : List StructInfo) → IsTrue (structs_sound structs 0 structs) → (n : ℕ) → n < length structs → HasLeaf structs (Struct n)
struct_leaf structs sound n low = leaves_below structs sound (suc n) n (omega arith) low

-- ---- arrays

-- an array has an element, and no more than 32 bits hold
abbrev pub IsCounted : VarTy → Type 0
IsCounted (Int t) = Unit {0}
IsCounted (Struct n) = Unit {0}
IsCounted (Array elem count) = (1 ≤ count) × (count < 2 ^ 32)
IsCounted (Pointer elem fixed) = Unit {0}

pub counted : (structs : List StructInfo) → IsTrue (structs_sound structs 0 structs) → (n : ℕ) → n ≤ length structs → (ty : VarTy) → IsTrue (is_variable_type n ty) → IsTrue (is_small structs ty) → IsCounted ty
counted structs sound n low (Int t) h small = tt {0}
counted structs sound n low (Struct m) h small = tt {0}
counted structs sound n low (Pointer elem fixed) h small = tt {0}
counted structs sound n low (Array elem count) h small =
    let item : HasLeaf structs (type_of_elem elem) =
    leaf_of_elem structs n (λ m less. struct_leaf structs sound m (omega (arith, low, less))) elem (both_hold_first (is_elem n (Some elem)) (nat_le 1 count) h) in
    let all : length (leaves_of structs (Array elem count)) ≡ length (repeated count (leaves_of structs (type_of_elem elem))) = ap length (leaves_of_array structs elem count) in
    let long = many count (leaves_of structs (type_of_elem elem)) item in
    let most = few (length (leaves_of structs (Array elem count))) small in
    (at_least count (both_hold_second (is_elem n (Some elem)) (nat_le 1 count) h), omega (arith, all, long, most))
  where
    at_least : (count : ℕ) → IsTrue (nat_le 1 count) → 1 ≤ count
    at_least count h = grind (arith, nat_tests)

    few : (k : ℕ) → IsTrue (nat_le k 65_536) → k ≤ 65_536
    few k h = grind (arith, nat_tests)
