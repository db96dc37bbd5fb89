-- The cells of objects and their leaves.
use Rattle.std.proofs.Common.{◌≡◌, ◌∙◌, ◌≤◌, ◌<◌, ℕ, zero, suc, ◌+◌, ◌*◌, refl, ap, sym, subst, arith, Bool, true, Option, Some, None, List, [], ◌∷◌, ◌++◌, length, length-append, map}
use Rattle.std.specs.Prelude.{slice_get, get_or, nat_lt, nat_le, take}
use Rattle.std.specs.List.{list_all, flat_map}
use Rattle.std.proofs.lemmas.Bool.Decides.{nat_tests}
use Rattle.std.proofs.lemmas.List.{length-map, map-append}
use Rattle.std.proofs.lemmas.Option.{slice_get-get_or}
use Rattle.pt_base.proofs.Booleans.{both_hold, both_hold_first, both_hold_second, false_not_true}
use Rattle.pt_base.proofs.Members.{all_true_at}
use Rattle.pt_base.proofs.Numbers.{nat_lt_next}
use Rattle.pt_base.proofs.Options.{some_same}
use Rattle.pt_base.proofs.Places.{get_below_length}
use Rattle.pt_tree.specs.declared.signature.Elem.{Elem}
use Rattle.pt_tree.specs.declared.signature.Elem.TheVariants as e
use Rattle.typed_tree.specs.declared.types.VarTy.{VarTy}
use Rattle.typed_tree.specs.declared.types.VarTy.TheVariants.{Int, Struct, Array, Pointer}
use Rattle.typed_tree.specs.declared.types.Field.{Field}
use Rattle.typed_tree.specs.declared.types.StructInfo.{StructInfo}
use Rattle.typed_tree.specs.Cells.{repeated}
use Rattle.typed_tree.specs.Cells as cells
use Rattle.typed_tree.specs.Sizes.{sizes_of, elem_cells, cells_by, fields_cells, fields_of, offset_of}
use Rattle.typed_tree.specs.TypeTests.{type_of_elem}
use Rattle.typed_tree.specs.WellFormedExpression.{is_elem}
use Rattle.typed_tree.specs.WellFormed.{is_plain_type, is_small, field_sound, structs_sound}
use Rattle.typed_tree.proofs.LeavesLemmas.{leaves_of_struct}
use Rattle.source_meaning.proofs.SizeLemmas.{sizes}
use Rattle.pt_core.specs.Types.{field_type}
use Rattle.pt_core.specs.Values.{offset_in}
use Rattle.pt_core.specs.WellFormedExpression.{is_field}
use Rattle.core_soundness_law.proofs.Leaves.{sound_at, field_of}
use Rattle.sides.specs.Leaves.{leaf_of_field, elem_leaves, type_leaves, fields_leaves, leaves_of, leaf_count, field_start, field_starts}
use Rattle.sides.specs.LeafTables.{leaves_below}
use Rattle.sides.proofs.LeafLemmas.{entry_of, all_below}
use Rattle.flow_edges.specs.Items.{elem_items, type_items, fields_items, struct_items, items_of}
use Rattle.handle_classes_law.specs.ObjectsCells.{cell_leaves, leaf_under}

-- ---- lists

at_first : (xs ys : List ℕ) (n d : ℕ) → n < length xs → get_or (xs ++ ys) n d ≡ get_or xs n d
at_first [] ys n d h = absurd (grind (arith, h))
at_first (x ∷ xs) ys zero d h = refl
at_first (x ∷ xs) ys (suc n) d h = at_first xs ys n d (omega (arith, h))

at_rest : (xs ys : List ℕ) (n d : ℕ) → get_or (xs ++ ys) (length xs + n) d ≡ get_or ys n d
at_rest [] ys n d = ap (λ z. get_or ys z d) (let e : 0 + n ≡ n = omega arith in e)
at_rest (x ∷ xs) ys n d = ap (λ z. get_or (x ∷ xs ++ ys) z d) (regroup (length xs) n) ∙ at_rest xs ys n d
  where
    regroup : (a n : ℕ) → suc a + n ≡ suc (a + n)
    regroup a n = omega arith

at_map : (a : ℕ) (xs : List ℕ) (n : ℕ) → n < length xs → get_or (map (λ x. a + x) xs) n 0 ≡ a + get_or xs n 0
at_map a [] n h = absurd (grind (arith, h))
at_map a (x ∷ xs) zero h = refl
at_map a (x ∷ xs) (suc n) h = at_map a xs n (omega (arith, h))

all_less : (bound : ℕ) (xs : List ℕ) (n : ℕ) → list_all (λ x. nat_lt x bound) xs ≡ true → n < length xs → get_or xs n 0 < bound
all_less bound [] n h less = absurd (grind (arith, less))
all_less bound (x ∷ xs) zero h less = let one = both_hold_first (nat_lt x bound) (list_all (λ x. nat_lt x bound) xs) h in grind (arith, nat_tests, one)
all_less bound (x ∷ xs) (suc n) h less = all_less bound xs n (both_hold_second (nat_lt x bound) (list_all (λ x. nat_lt x bound) xs) h) (omega (arith, less))

-- ---- arrays

none : (a n : ℕ) → 0 * a + n ≡ n
none a n = omega arith

once_more : (n l : ℕ) → suc n * l ≡ l + n * l
once_more n l = grind arith

repeated_long : (count : ℕ) (xs : List ℕ) → length (repeated count xs) ≡ count * length xs
repeated_long zero xs = omega arith
repeated_long (suc n) xs = length-append xs (repeated n xs) ∙ ap (λ z. length xs + z) (repeated_long n xs) ∙ sym (once_more n (length xs))

repeated_at : (count i n : ℕ) (xs : List ℕ) → i < count → n < length xs → get_or (repeated count xs) (i * length xs + n) 0 ≡ get_or xs n 0
repeated_at zero i n xs h less = absurd (grind (arith, h))
repeated_at (suc c) zero n xs h less = ap (λ z. get_or (xs ++ repeated c xs) z 0) (none (length xs) n) ∙ at_first xs (repeated c xs) n 0 less
repeated_at (suc c) (suc i) n xs h less =
    ap (λ z. get_or (xs ++ repeated c xs) z 0) (ap (λ z. z + n) (once_more i (length xs)) ∙ regroup (length xs) (i * length xs) n) ∙ at_rest xs (repeated c xs) (i * length xs + n) 0 ∙ repeated_at c i n xs (omega (arith, h)) less
  where
    regroup : (a b n : ℕ) → a + b + n ≡ a + (b + n)
    regroup a b n = omega arith

map_repeated : (f : ℕ → ℕ) (count : ℕ) (xs : List ℕ) → map f (repeated count xs) ≡ repeated count (map f xs)
map_repeated f zero xs = refl
map_repeated f (suc n) xs = map-append f xs (repeated n xs) ∙ ap (λ ys. map f xs ++ ys) (map_repeated f n xs)

-- ---- what begins further behind

abbrev pub Within : Type 0
Within = ℕ → ℕ → List ℕ

abbrev pub Shifts : Within → Type 0
Shifts within = (a s n : ℕ) → within (a + s) n ≡ map (λ x. a + x) (within s n)

elem_shifts : (w : Within) → Shifts w → (a s : ℕ) (elem : Elem) → elem_items w (a + s) elem ≡ map (λ x. a + x) (elem_items w s elem)
elem_shifts w h a s (e.Int t) = refl
elem_shifts w h a s (e.Struct n) = h a s n

pub type_shifts : (w : Within) → Shifts w → (a s : ℕ) (ty : VarTy) → type_items w (a + s) ty ≡ map (λ x. a + x) (type_items w s ty)
type_shifts w h a s (Int t) = refl
type_shifts w h a s (Struct n) = h a s n
type_shifts w h a s (Array elem count) = ap (λ z. repeated count z) (elem_shifts w h a s elem) ∙ sym (map_repeated (λ x. a + x) count (elem_items w s elem))
type_shifts w h a s (Pointer elem fixed) = refl

fields_shift : (count : VarTy → ℕ) (w : Within) → Shifts w → (a s : ℕ) (fs : List Field) → fields_items count w (a + s) fs ≡ map (λ x. a + x) (fields_items count w s fs)
fields_shift count w h a s [] = refl
fields_shift count w h a s (f ∷ fs) =
    ap (λ z. type_items w (a + s) f.ty ++ fields_items count w z fs) (regroup a s (count f.ty))
    ∙ ap (λ z. z ++ fields_items count w (a + (s + count f.ty)) fs) (type_shifts w h a s f.ty)
    ∙ ap (λ z. map (λ x. a + x) (type_items w s f.ty) ++ z) (fields_shift count w h a (s + count f.ty) fs)
    ∙ sym (map-append (λ x. a + x) (type_items w s f.ty) (fields_items count w (s + count f.ty) fs))
  where
    regroup : (a s c : ℕ) → a + s + c ≡ a + (s + c)
    regroup a s c = omega arith

pub struct_shifts : (structs : List StructInfo) (depth : ℕ) → Shifts (struct_items structs depth)
struct_shifts structs zero a s n = refl
struct_shifts structs (suc d) a s n = fields_shift (leaf_count structs) (struct_items structs d) (struct_shifts structs d) a s (fields_of structs n)

-- ---- how deep structs are nested plays no part

elem_deep : (v w : Within) (m s : ℕ) (elem : Elem) → ((s n : ℕ) → n < m → v s n ≡ w s n) → is_elem m (Some elem) ≡ true → elem_items v s elem ≡ elem_items w s elem
elem_deep v w m s (e.Int t) h is = refl
elem_deep v w m s (e.Struct n) h is = h s n (grind (arith, nat_tests, is))

type_deep : (v w : Within) (m s : ℕ) (ty : VarTy) → ((s n : ℕ) → n < m → v s n ≡ w s n) → is_plain_type m ty ≡ true → type_items v s ty ≡ type_items w s ty
type_deep v w m s (Int t) h is = refl
type_deep v w m s (Struct n) h is = h s n (grind (arith, nat_tests, is))
type_deep v w m s (Array elem count) h is = ap (λ z. repeated count z) (elem_deep v w m s elem h (both_hold_first (is_elem m (Some elem)) (nat_le 1 count) is))
type_deep v w m s (Pointer elem fixed) h is = false_not_true is

fields_deep : (structs : List StructInfo) (v w : Within) (m s : ℕ) (fs : List Field) → ((s n : ℕ) → n < m → v s n ≡ w s n) → list_all (field_sound structs m) fs ≡ true → fields_items (leaf_count structs) v s fs ≡ fields_items (leaf_count structs) w s fs
fields_deep structs v w m s [] h is = refl
fields_deep structs v w m s (f ∷ fs) h is =
    let one = both_hold_first (field_sound structs m f) (list_all (field_sound structs m) fs) is in
    ap (λ z. z ++ fields_items (leaf_count structs) v (s + leaf_count structs f.ty) fs) (type_deep v w m s f.ty h (both_hold_first (is_plain_type m f.ty) (is_small structs f.ty) one))
    ∙ ap (λ z. type_items w s f.ty ++ z) (fields_deep structs v w m (s + leaf_count structs f.ty) fs h (both_hold_second (field_sound structs m f) (list_all (field_sound structs m) fs) is))

-- a struct's fields name those before it
pub fields_sound : (structs : List StructInfo) (n : ℕ) → structs_sound structs 0 structs ≡ true → list_all (field_sound structs n) (fields_of structs n) ≡ true
fields_sound structs n sound = go (slice_get structs n) refl
  where
    none_or : (xs : List StructInfo) (k : ℕ) (y : StructInfo) → slice_get xs k ≡ None → get_or xs k y ≡ y
    none_or [] k y h = refl
    none_or (z ∷ zs) zero y h = cc
    none_or (z ∷ zs) (suc k) y h = none_or zs k y h

    some_or : (xs : List StructInfo) (k : ℕ) (x y : StructInfo) → slice_get xs k ≡ Some x → get_or xs k y ≡ x
    some_or [] k x y h = cc
    some_or (z ∷ zs) zero x y h = cc
    some_or (z ∷ zs) (suc k) x y h = some_or zs k x y h

    go : (o : Option StructInfo) → slice_get structs n ≡ o → list_all (field_sound structs n) (fields_of structs n) ≡ true
    go None is = ap (λ (x : StructInfo). list_all (field_sound structs n) x.fields) (none_or structs n (record { name = []; fields = [] }) is)
    go (Some x) is =
        ap (λ (y : StructInfo). list_all (field_sound structs n) y.fields) (some_or structs n x (record { name = []; fields = [] }) is)
        ∙ both_hold_second (nat_le 1 (length x.fields)) (list_all (field_sound structs n) x.fields) (sound_at structs n x sound is)

pub depth_free : (structs : List StructInfo) → structs_sound structs 0 structs ≡ true → (d e s n : ℕ) → n < d → n < e → struct_items structs d s n ≡ struct_items structs e s n
depth_free structs sound zero e s n h k = absurd (grind (arith, h))
depth_free structs sound (suc d) zero s n h k = absurd (grind (arith, k))
depth_free structs sound (suc d) (suc e) s n h k =
    fields_deep structs (struct_items structs d) (struct_items structs e) n s (fields_of structs n) (λ s2 m less. depth_free structs sound d e s2 m (omega (arith, h, less)) (omega (arith, k, less))) (fields_sound structs n sound)

-- ---- how many there are

abbrev HaveSizes : List StructInfo → ℕ → Within → Type 0
HaveSizes structs m w = (s n : ℕ) → n < m → length (w s n) ≡ cells_by (sizes_of structs) (Struct n)

elem_long : (structs : List StructInfo) (m : ℕ) (w : Within) (s : ℕ) (elem : Elem) → HaveSizes structs m w → is_elem m (Some elem) ≡ true → length (elem_items w s elem) ≡ elem_cells (sizes_of structs) elem
elem_long structs m w s (e.Int t) h is = refl
elem_long structs m w s (e.Struct n) h is = h s n (grind (arith, nat_tests, is))

type_long : (structs : List StructInfo) (m : ℕ) (w : Within) (s : ℕ) (ty : VarTy) → HaveSizes structs m w → is_plain_type m ty ≡ true → length (type_items w s ty) ≡ cells_by (sizes_of structs) ty
type_long structs m w s (Int t) h is = refl
type_long structs m w s (Struct n) h is = h s n (grind (arith, nat_tests, is))
type_long structs m w s (Array elem count) h is =
    repeated_long count (elem_items w s elem) ∙ ap (λ z. count * z) (elem_long structs m w s elem h (both_hold_first (is_elem m (Some elem)) (nat_le 1 count) is))
type_long structs m w s (Pointer elem fixed) h is = false_not_true is

fields_long : (structs : List StructInfo) (m : ℕ) (w : Within) (s : ℕ) (fs : List Field) → HaveSizes structs m w → list_all (field_sound structs m) fs ≡ true → length (fields_items (leaf_count structs) w s fs) ≡ fields_cells (sizes_of structs) fs
fields_long structs m w s [] h is = refl
fields_long structs m w s (f ∷ fs) h is =
    let one = type_long structs m w s f.ty h (both_hold_first (is_plain_type m f.ty) (is_small structs f.ty) (both_hold_first (field_sound structs m f) (list_all (field_sound structs m) fs) is)) in
    let rest = fields_long structs m w (s + leaf_count structs f.ty) fs h (both_hold_second (field_sound structs m f) (list_all (field_sound structs m) fs) is) in
    let both = length-append (type_items w s f.ty) (fields_items (leaf_count structs) w (s + leaf_count structs f.ty) fs) in
    omega (arith, one, rest, both)

all_fields : (structs : List StructInfo) (fs : List Field) → length (flat_map (λ (f : Field). cells.leaves_of structs f.ty) fs) ≡ fields_cells (sizes_of structs) fs
all_fields structs [] = refl
all_fields structs (f ∷ fs) =
    let here = length-append (cells.leaves_of structs f.ty) (flat_map (λ (g : Field). cells.leaves_of structs g.ty) fs) in
    let one = sizes structs f.ty in
    let rest = all_fields structs fs in
    omega (arith, here, one, rest)

pub struct_cells : (structs : List StructInfo) (n : ℕ) → structs_sound structs 0 structs ≡ true → n < length structs → cells_by (sizes_of structs) (Struct n) ≡ fields_cells (sizes_of structs) (fields_of structs n)
struct_cells structs n sound less =
    sizes structs (Struct n) ∙ ap length (leaves_of_struct structs n (get_or structs n (record { name = []; fields = [] })) sound (slice_get-get_or structs n (record { name = []; fields = [] }) less)) ∙ all_fields structs (fields_of structs n)

pub struct_long : (structs : List StructInfo) → structs_sound structs 0 structs ≡ true → (d m : ℕ) → m ≤ d → m ≤ length structs → HaveSizes structs m (struct_items structs d)
struct_long structs sound zero m small in_list s n less = absurd (grind (arith, small, less))
struct_long structs sound (suc d) m small in_list s n less =
    fields_long structs n (struct_items structs d) s (fields_of structs n) (struct_long structs sound d n (omega (arith, small, less)) (omega (arith, in_list, less))) (fields_sound structs n sound)
    ∙ sym (struct_cells structs n sound (omega (arith, in_list, less)))

pub cells_have_leaves : (structs : List StructInfo) (ty : VarTy) → structs_sound structs 0 structs ≡ true → is_plain_type (length structs) ty ≡ true → length (cell_leaves structs ty) ≡ cells_by (sizes_of structs) ty
cells_have_leaves structs ty sound plain =
    type_long structs (length structs) (struct_items structs (length structs)) 0 ty (struct_long structs sound (length structs) (length structs) (omega arith) (omega arith)) plain

-- ---- fields

fields_at : (structs : List StructInfo) (m : ℕ) (w : Within) (s : ℕ) (fs : List Field) (k : ℕ) (x : Field) (n : ℕ) → HaveSizes structs m w → list_all (field_sound structs m) fs ≡ true → slice_get fs k ≡ Some x → n < cells_by (sizes_of structs) x.ty →
    get_or (fields_items (leaf_count structs) w s fs) (fields_cells (sizes_of structs) (take k fs) + n) 0 ≡ get_or (type_items w (get_or (field_starts (leaf_count structs) s fs) k 0) x.ty) n 0
fields_at structs m w s [] k x n h sound is less = cc
fields_at structs m w s (f ∷ fs) zero x n h sound is less =
    let one = type_long structs m w s f.ty h (both_hold_first (is_plain_type m f.ty) (is_small structs f.ty) (both_hold_first (field_sound structs m f) (list_all (field_sound structs m) fs) sound)) in
    let same : cells_by (sizes_of structs) f.ty ≡ cells_by (sizes_of structs) x.ty = ap (λ (z : Field). cells_by (sizes_of structs) z.ty) (some_same f x is) in
    ap (λ z. get_or (type_items w s f.ty ++ fields_items (leaf_count structs) w (s + leaf_count structs f.ty) fs) z 0) (let e : 0 + n ≡ n = omega arith in e)
    ∙ at_first (type_items w s f.ty) (fields_items (leaf_count structs) w (s + leaf_count structs f.ty) fs) n 0 (omega (arith, one, same, less))
    ∙ ap (λ (z : Field). get_or (type_items w s z.ty) n 0) (some_same f x is)
fields_at structs m w s (f ∷ fs) (suc k) x n h sound is less =
    let one = type_long structs m w s f.ty h (both_hold_first (is_plain_type m f.ty) (is_small structs f.ty) (both_hold_first (field_sound structs m f) (list_all (field_sound structs m) fs) sound)) in
    ap (λ z. get_or (type_items w s f.ty ++ fields_items (leaf_count structs) w (s + leaf_count structs f.ty) fs) z 0) (regroup (cells_by (sizes_of structs) f.ty) (fields_cells (sizes_of structs) (take k fs)) n (length (type_items w s f.ty)) one)
    ∙ at_rest (type_items w s f.ty) (fields_items (leaf_count structs) w (s + leaf_count structs f.ty) fs) (fields_cells (sizes_of structs) (take k fs) + n) 0
    ∙ fields_at structs m w (s + leaf_count structs f.ty) fs k x n h (both_hold_second (field_sound structs m f) (list_all (field_sound structs m) fs) sound) is less
  where
    regroup : (a b n l : ℕ) → l ≡ a → a + b + n ≡ l + (b + n)
    regroup a b n l e = omega (arith, e)

fields_room : (sizes : List ℕ) (fs : List Field) (k : ℕ) (x : Field) → slice_get fs k ≡ Some x → fields_cells sizes (take k fs) + cells_by sizes x.ty ≤ fields_cells sizes fs
fields_room sizes [] k x is = cc
fields_room sizes (f ∷ fs) zero x is = let same : cells_by sizes f.ty ≡ cells_by sizes x.ty = ap (λ (z : Field). cells_by sizes z.ty) (some_same f x is) in omega (arith, same)
fields_room sizes (f ∷ fs) (suc k) x is = let rest = fields_room sizes fs k x is in omega (arith, rest)

-- the field lies within
pub field_fits_in : (structs : List StructInfo) (m k : ℕ) → structs_sound structs 0 structs ≡ true → is_field structs (Struct m) k ≡ true → offset_in structs (Struct m) k + cells_by (sizes_of structs) (field_type structs (Struct m) k) ≤ cells_by (sizes_of structs) (Struct m)
field_fits_in structs m k sound field =
    let f = field_of structs m k field in
    let got : slice_get (fields_of structs m) k ≡ Some f.field = subst (λ z. slice_get z k ≡ Some f.field) (sym f.fields) f.is_field in
    let room = fields_room (sizes_of structs) (fields_of structs m) k f.field got in
    let whole = struct_cells structs m sound (get_below_length structs m f.struct_ f.is_struct) in
    let own : cells_by (sizes_of structs) (field_type structs (Struct m) k) ≡ cells_by (sizes_of structs) f.field.ty = ap (λ z. cells_by (sizes_of structs) z) f.typed in
    omega (arith, room, whole, own)

pub fields_lie_so : (structs : List StructInfo) (m k n : ℕ) → structs_sound structs 0 structs ≡ true → is_field structs (Struct m) k ≡ true → n < cells_by (sizes_of structs) (field_type structs (Struct m) k) →
    (offset_in structs (Struct m) k + cells_by (sizes_of structs) (field_type structs (Struct m) k) ≤ cells_by (sizes_of structs) (Struct m)) ×
    (leaf_under structs (Struct m) (offset_in structs (Struct m) k + n) ≡ field_start structs m k + leaf_under structs (field_type structs (Struct m) k) n)
fields_lie_so structs m k n sound field less =
    let f = field_of structs m k field in
    let small = get_below_length structs m f.struct_ f.is_struct in
    let got : slice_get (fields_of structs m) k ≡ Some f.field = subst (λ z. slice_get z k ≡ Some f.field) (sym f.fields) f.is_field in
    let each = fields_sound structs m sound in
    let w = struct_items structs (length structs) in
    let sized = struct_long structs sound (length structs) m (omega (arith, small)) (omega (arith, small)) in
    let plain = both_hold_first (is_plain_type m f.field.ty) (is_small structs f.field.ty) (all_true_at (field_sound structs m) (fields_of structs m) k f.field each got) in
    let less2 : n < cells_by (sizes_of structs) f.field.ty = subst (λ z. n < cells_by (sizes_of structs) z) f.typed less in
    let long = type_long structs m w 0 f.field.ty sized plain in
    let room = fields_room (sizes_of structs) (fields_of structs m) k f.field got in
    let whole = struct_cells structs m sound small in
    let own : cells_by (sizes_of structs) (field_type structs (Struct m) k) ≡ cells_by (sizes_of structs) f.field.ty = ap (λ z. cells_by (sizes_of structs) z) f.typed in (
      omega (arith, room, whole, own),
      ap (λ z. get_or z (offset_of structs m k + n) 0) (depth_free structs sound (length structs) (suc (length structs)) 0 m small (omega (arith, small)))
          ∙ fields_at structs m w 0 (fields_of structs m) k f.field n sized each got less2
          ∙ ap (λ z. get_or (type_items w z f.field.ty) n 0) (let e : field_start structs m k ≡ field_start structs m k + 0 = omega arith in e)
          ∙ ap (λ z. get_or z n 0) (type_shifts w (struct_shifts structs (length structs)) (field_start structs m k) 0 f.field.ty)
          ∙ at_map (field_start structs m k) (type_items w 0 f.field.ty) n (omega (arith, long, less2))
          ∙ ap (λ z. field_start structs m k + leaf_under structs z n) (sym f.typed),
    )

pub plain_more : (a c : ℕ) (ty : VarTy) → a ≤ c → is_plain_type a ty ≡ true → is_plain_type c ty ≡ true
plain_more a c (Int t) le h = refl
plain_more a c (Struct n) le h = grind (arith, nat_tests, h, le)
plain_more a c (Array (e.Int t) count) le h = h
plain_more a c (Array (e.Struct n) count) le h = both_hold (nat_lt n c) (nat_le 1 count) (let one = both_hold_first (nat_lt n a) (nat_le 1 count) h in grind (arith, nat_tests, one, le)) (both_hold_second (nat_lt n a) (nat_le 1 count) h)
plain_more a c (Pointer elem fixed) le h = false_not_true h

-- no field is a pointer
pub field_plain : (structs : List StructInfo) (m k : ℕ) → structs_sound structs 0 structs ≡ true → is_field structs (Struct m) k ≡ true → is_plain_type (length structs) (field_type structs (Struct m) k) ≡ true
field_plain structs m k sound field =
    let f = field_of structs m k field in
    let small = get_below_length structs m f.struct_ f.is_struct in
    let got : slice_get (fields_of structs m) k ≡ Some f.field = subst (λ z. slice_get z k ≡ Some f.field) (sym f.fields) f.is_field in
    subst (λ z. is_plain_type (length structs) z ≡ true) (sym f.typed)
    (plain_more m (length structs) f.field.ty (omega (arith, small)) (both_hold_first (is_plain_type m f.field.ty) (is_small structs f.field.ty) (all_true_at (field_sound structs m) (fields_of structs m) k f.field (fields_sound structs m sound) got)))

-- ---- elements

pub elements_lie_alike : (structs : List StructInfo) (elem : Elem) (count i n : ℕ) → structs_sound structs 0 structs ≡ true → is_plain_type (length structs) (Array elem count) ≡ true →
    i < count → n < elem_cells (sizes_of structs) elem → leaf_under structs (Array elem count) (i * elem_cells (sizes_of structs) elem + n) ≡ leaf_under structs (type_of_elem elem) n
elements_lie_alike structs elem count i n sound plain below less =
    let w = struct_items structs (length structs) in
    let long = elem_long structs (length structs) w 0 elem (struct_long structs sound (length structs) (length structs) (omega arith) (omega arith)) (both_hold_first (is_elem (length structs) (Some elem)) (nat_le 1 count) plain) in
    ap (λ z. get_or (repeated count (elem_items w 0 elem)) (i * z + n) 0) (sym long)
    ∙ repeated_at count i n (elem_items w 0 elem) below (omega (arith, long, less))
    ∙ same elem
  where
    same : (elem : Elem) → get_or (elem_items (struct_items structs (length structs)) 0 elem) n 0 ≡ leaf_under structs (type_of_elem elem) n
    same (e.Int t) = refl
    same (e.Struct m) = refl

-- ---- leaves of structs

below_same : (structs : List StructInfo) (n m : ℕ) → m < n → n ≤ length structs → get_or (leaves_below structs n) m [] ≡ get_or (leaves_below structs (length structs)) m []
below_same structs n m less small = entry_of structs m n less ∙ sym (entry_of structs m (length structs) (omega (arith, less, small)))

elem_same : (structs : List StructInfo) (n : ℕ) (elem : Elem) → n ≤ length structs → is_elem n (Some elem) ≡ true → elem_leaves (leaves_below structs n) elem ≡ elem_leaves (leaves_below structs (length structs)) elem
elem_same structs n (e.Int t) small is = refl
elem_same structs n (e.Struct m) small is = below_same structs n m (grind (arith, nat_tests, is)) small

pub type_same : (structs : List StructInfo) (n : ℕ) (ty : VarTy) → n ≤ length structs → is_plain_type n ty ≡ true → type_leaves (leaves_below structs n) ty ≡ leaves_of structs ty
type_same structs n (Int t) small is = all_below structs (Int t)
type_same structs n (Struct m) small is = below_same structs n m (grind (arith, nat_tests, is)) small ∙ all_below structs (Struct m)
type_same structs n (Array elem count) small is = elem_same structs n elem small (both_hold_first (is_elem n (Some elem)) (nat_le 1 count) is) ∙ all_below structs (Array elem count)
type_same structs n (Pointer elem fixed) small is = false_not_true is

-- how many leaves fields have together
abbrev pub all_leaves : List StructInfo → List Field → ℕ
all_leaves structs [] = 0
all_leaves structs (f ∷ fs) = leaf_count structs f.ty + all_leaves structs fs

fields_count : (structs : List StructInfo) (n k : ℕ) (fs : List Field) → n ≤ length structs → list_all (field_sound structs n) fs ≡ true → length (fields_leaves (leaves_below structs n) k fs) ≡ all_leaves structs fs
fields_count structs n k [] small is = refl
fields_count structs n k (f ∷ fs) small is =
    let one = ap length (type_same structs n f.ty small (both_hold_first (is_plain_type n f.ty) (is_small structs f.ty) (both_hold_first (field_sound structs n f) (list_all (field_sound structs n) fs) is))) in
    let rest = fields_count structs n (suc k) fs small (both_hold_second (field_sound structs n f) (list_all (field_sound structs n) fs) is) in
    let both = length-append (map (leaf_of_field k f.marked) (type_leaves (leaves_below structs n) f.ty)) (fields_leaves (leaves_below structs n) (suc k) fs) in
    let same = length-map (type_leaves (leaves_below structs n) f.ty) (leaf_of_field k f.marked) in
    omega (arith, one, rest, both, same)

pub struct_leaves : (structs : List StructInfo) (n : ℕ) → structs_sound structs 0 structs ≡ true → n < length structs → leaf_count structs (Struct n) ≡ all_leaves structs (fields_of structs n)
struct_leaves structs n sound less =
    ap length (sym (all_below structs (Struct n)) ∙ entry_of structs n (length structs) less) ∙ fields_count structs n 0 (fields_of structs n) (omega (arith, less)) (fields_sound structs n sound)

-- ---- all are below

abbrev pub AreBelow : ℕ → List ℕ → Type 0
AreBelow bound xs = list_all (λ x. nat_lt x bound) xs ≡ true

more_below : (a b : ℕ) (xs : List ℕ) → a ≤ b → AreBelow a xs → AreBelow b xs
more_below a b [] le h = refl
more_below a b (x ∷ xs) le h =
    let one = both_hold_first (nat_lt x a) (list_all (λ y. nat_lt y a) xs) h in
    both_hold (nat_lt x b) (list_all (λ y. nat_lt y b) xs) (grind (arith, nat_tests, one, le)) (more_below a b xs le (both_hold_second (nat_lt x a) (list_all (λ y. nat_lt y a) xs) h))

both_below : (b : ℕ) (xs ys : List ℕ) → AreBelow b xs → AreBelow b ys → AreBelow b (xs ++ ys)
both_below b [] ys h k = k
both_below b (x ∷ xs) ys h k = both_hold (nat_lt x b) (list_all (λ y. nat_lt y b) (xs ++ ys)) (both_hold_first (nat_lt x b) (list_all (λ y. nat_lt y b) xs) h) (both_below b xs ys (both_hold_second (nat_lt x b) (list_all (λ y. nat_lt y b) xs) h) k)

repeated_below : (b count : ℕ) (xs : List ℕ) → AreBelow b xs → AreBelow b (repeated count xs)
repeated_below b zero xs h = refl
repeated_below b (suc n) xs h = both_below b xs (repeated n xs) h (repeated_below b n xs h)

abbrev StayBelow : List StructInfo → ℕ → Within → Type 0
StayBelow structs m w = (s n : ℕ) → n < m → AreBelow (s + leaf_count structs (Struct n)) (w s n)

elem_below : (structs : List StructInfo) (m : ℕ) (w : Within) (s : ℕ) (elem : Elem) → StayBelow structs m w → is_elem m (Some elem) ≡ true → AreBelow (s + leaf_count structs (type_of_elem elem)) (elem_items w s elem)
unfolding leaves_of
elem_below structs m w s (e.Int t) h is = both_hold (nat_lt s (s + 1)) true (nat_lt_next s) refl
elem_below structs m w s (e.Struct n) h is = h s n (grind (arith, nat_tests, is))

pub pointer_leaves : (structs : List StructInfo) (elem : Elem) (fixed : Bool) → leaf_count structs (Pointer elem fixed) ≡ leaf_count structs (type_of_elem elem)
unfolding leaves_of
pointer_leaves structs (e.Int t) fixed = refl
pointer_leaves structs (e.Struct n) fixed = refl

pub array_leaves : (structs : List StructInfo) (elem : Elem) (count : ℕ) → leaf_count structs (Array elem count) ≡ leaf_count structs (type_of_elem elem)
unfolding leaves_of
array_leaves structs (e.Int t) count = refl
array_leaves structs (e.Struct n) count = refl

type_below : (structs : List StructInfo) (m : ℕ) (w : Within) (s : ℕ) (ty : VarTy) → StayBelow structs m w → is_plain_type m ty ≡ true → AreBelow (s + leaf_count structs ty) (type_items w s ty)
unfolding leaves_of
type_below structs m w s (Int t) h is = both_hold (nat_lt s (s + 1)) true (nat_lt_next s) refl
type_below structs m w s (Struct n) h is = h s n (grind (arith, nat_tests, is))
type_below structs m w s (Array elem count) h is =
    repeated_below (s + leaf_count structs (Array elem count)) count (elem_items w s elem)
    (subst (λ z. AreBelow (s + z) (elem_items w s elem)) (sym (array_leaves structs elem count)) (elem_below structs m w s elem h (both_hold_first (is_elem m (Some elem)) (nat_le 1 count) is)))
type_below structs m w s (Pointer elem fixed) h is = false_not_true is

fields_below : (structs : List StructInfo) (m : ℕ) (w : Within) (s : ℕ) (fs : List Field) → StayBelow structs m w → list_all (field_sound structs m) fs ≡ true → AreBelow (s + all_leaves structs fs) (fields_items (leaf_count structs) w s fs)
fields_below structs m w s [] h is = refl
fields_below structs m w s (f ∷ fs) h is =
    let one = type_below structs m w s f.ty h (both_hold_first (is_plain_type m f.ty) (is_small structs f.ty) (both_hold_first (field_sound structs m f) (list_all (field_sound structs m) fs) is)) in
    let rest = fields_below structs m w (s + leaf_count structs f.ty) fs h (both_hold_second (field_sound structs m f) (list_all (field_sound structs m) fs) is) in
    both_below (s + all_leaves structs (f ∷ fs)) (type_items w s f.ty) (fields_items (leaf_count structs) w (s + leaf_count structs f.ty) fs)
    (more_below (s + leaf_count structs f.ty) (s + all_leaves structs (f ∷ fs)) (type_items w s f.ty) (first s (leaf_count structs f.ty) (all_leaves structs fs)) one)
    (subst (λ z. AreBelow z (fields_items (leaf_count structs) w (s + leaf_count structs f.ty) fs)) (regroup s (leaf_count structs f.ty) (all_leaves structs fs)) rest)
  where
    first : (s a b : ℕ) → s + a ≤ s + (a + b)
    first s a b = omega arith

    regroup : (s a b : ℕ) → s + a + b ≡ s + (a + b)
    regroup s a b = omega arith

struct_below : (structs : List StructInfo) → structs_sound structs 0 structs ≡ true → (d m : ℕ) → m ≤ d → m ≤ length structs → StayBelow structs m (struct_items structs d)
struct_below structs sound zero m small in_list s n less = absurd (grind (arith, small, less))
struct_below structs sound (suc d) m small in_list s n less =
    subst (λ z. AreBelow (s + z) (fields_items (leaf_count structs) (struct_items structs d) s (fields_of structs n))) (sym (struct_leaves structs n sound (omega (arith, in_list, less))))
    (fields_below structs n (struct_items structs d) s (fields_of structs n) (struct_below structs sound d n (omega (arith, small, less)) (omega (arith, in_list, less))) (fields_sound structs n sound))

pub leaves_are_own : (structs : List StructInfo) (ty : VarTy) (n : ℕ) → structs_sound structs 0 structs ≡ true → is_plain_type (length structs) ty ≡ true → n < cells_by (sizes_of structs) ty → leaf_under structs ty n < leaf_count structs ty
leaves_are_own structs ty n sound plain less =
    let long = cells_have_leaves structs ty sound plain in
    let all = type_below structs (length structs) (struct_items structs (length structs)) 0 ty (struct_below structs sound (length structs) (length structs) (omega arith) (omega arith)) plain in
    let one = all_less (0 + leaf_count structs ty) (cell_leaves structs ty) n all (omega (arith, long, less)) in omega (arith, one)

-- the slots of an object's integers are its own
pub items_below : (structs : List StructInfo) (ty : VarTy) (start : ℕ) → structs_sound structs 0 structs ≡ true → is_plain_type (length structs) ty ≡ true → AreBelow (start + leaf_count structs ty) (items_of structs (record { ty = ty; start = start }))
items_below structs ty start sound plain = type_below structs (length structs) (struct_items structs (length structs)) start ty (struct_below structs sound (length structs) (length structs) (omega arith) (omega arith)) plain
