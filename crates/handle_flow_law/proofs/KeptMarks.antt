-- The cells of what a pointer leads to, as they come back with a reply, have the marks of the leaves under which
-- they lie.
use Rattle.std.proofs.Common.{◌≡◌, ◌∙◌, ◌≤◌, ◌<◌, ℕ, zero, suc, ◌+◌, ◌*◌, refl, ap, sym, subst, arith, append_assoc, Bool, true, false, Option, None, Some, List, [], ◌∷◌, ◌++◌, length, length-append, map, get_or}
use Rattle.std.specs.Prelude.{◌||◌, slice_get, nat_lt, nat_le, option_map}
use Rattle.std.specs.List.{list_all, flat_map}
use Rattle.std.proofs.lemmas.Bool.Decides.{nat_tests}
use Rattle.std.proofs.lemmas.List.{length-map, map-append}
use Rattle.std.proofs.lemmas.Option.{get_or_from_slice_get as got}
use Rattle.marshalling_law.proofs.CallsSendable.{map_repeated}
use Rattle.pt_base.specs.declared.int_type.IntType.{IntType}
use Rattle.pt_base.proofs.Booleans.{both_hold_first, both_hold_second, false_not_true}
use Rattle.pt_base.proofs.Lists.{map_of_map}
use Rattle.pt_base.proofs.Places.{get_after, get_before, get_map}
use Rattle.pt_tree.specs.declared.signature.Elem.{Elem}
use Rattle.pt_tree.specs.declared.signature.Elem.TheVariants as e
use Rattle.typed_tree.specs.declared.types.Field.{Field}
use Rattle.typed_tree.specs.declared.types.StructInfo.{StructInfo}
use Rattle.typed_tree.specs.declared.types.VarTy.{VarTy}
use Rattle.typed_tree.specs.declared.types.VarTy.TheVariants.{Int, Struct, Array, Pointer}
use Rattle.typed_tree.specs.Cells.{repeated}
use Rattle.typed_tree.specs.Sizes.{sizes_of, elem_cells, fields_of}
use Rattle.typed_tree.specs.TypeTests.{type_of_elem}
use Rattle.typed_tree.specs.WellFormed.{is_plain_type, is_small, field_sound, structs_sound}
use Rattle.typed_tree.specs.WellFormedExpression.{is_elem}
use Rattle.sides.specs.Leaves as sides
use Rattle.sides.specs.Leaves.{leaf_of_field, whole, leaf_count, type_leaves, fields_leaves}
use Rattle.sides.specs.LeafTables.{leaves_below}
use Rattle.sides.proofs.LeafLemmas.{entry_of, all_below}
use Rattle.flow_edges.specs.Items.{struct_items, elem_items, type_items, fields_items}
use Rattle.marshalling.specs.declared.leaf.Leaf.{Leaf}
use Rattle.marshalling.specs.Leaves.{under, leaves_of, range_leaves, object_cells, field_cells, name_earlier}
use Rattle.marshalling.proofs.LeafLemmas.{leaves_of_int, leaves_of_struct}
use Rattle.marshalling.proofs.SoundStructs.{structs_stand}
use Rattle.handle_classes_law.specs.ObjectsCells.{cell_leaves, leaf_under}
use Rattle.handle_classes_law.proofs.ObjectsItems.{cells_have_leaves, depth_free, fields_sound, items_below, plain_more, struct_shifts, type_same, type_shifts}
use Rattle.handle_classes_law.proofs.SlavesClasses.{elem_size}
use Rattle.handle_classes_law.proofs.SlavesMoves.{elem_plain}

-- ---- lists

map_below : {B : Type 0} (bound : ℕ) (f g : ℕ → B) (xs : List ℕ) → list_all (λ x. nat_lt x bound) xs ≡ true → ((x : ℕ) → x < bound → f x ≡ g x) → map f xs ≡ map g xs
map_below bound f g [] h same = refl
map_below bound f g (x ∷ xs) h same =
    let less = both_hold_first (nat_lt x bound) (list_all (λ y. nat_lt y bound) xs) h in
    ap (λ z. z ∷ map f xs) (same x (grind (arith, nat_tests, less))) ∙ ap (λ ys. g x ∷ ys) (map_below bound f g xs (both_hold_second (nat_lt x bound) (list_all (λ y. nat_lt y bound) xs) h) same)

behind_these : {A : Type 0} (xs ys : List A) (n k : ℕ) (d : A) → n ≡ length xs → get_or (xs ++ ys) (n + k) d ≡ get_or ys k d
behind_these [] ys n k d is = ap (λ z. get_or ys z d) (let e : n + k ≡ k = omega (arith, is) in e)
behind_these (x ∷ xs) ys zero k d is = absurd (omega (arith, is))
behind_these (x ∷ xs) ys (suc n) k d is = ap (λ z. get_or (x ∷ (xs ++ ys)) z d) (let e : suc n + k ≡ suc (n + k) = omega arith in e) ∙ behind_these xs ys n k d (omega (arith, is))

of_map : {A : Type 0} (f : A → A) (xs ys : List A) (k : ℕ) (d : A) → k < length xs → get_or (map f xs ++ ys) k d ≡ f (get_or xs k d)
of_map f [] ys k d less = absurd (omega (arith, less))
of_map f (x ∷ xs) ys zero d less = refl
of_map f (x ∷ xs) ys (suc k) d less = of_map f xs ys k d (omega (arith, less))

-- ---- marks

-- the mark of a leaf of an object
abbrev mark_at : List StructInfo → VarTy → ℕ → Bool
mark_at structs ty l = (get_or (sides.leaves_of structs ty) l whole).marked

abbrev items : List StructInfo → ℕ → ℕ → List ℕ
items structs start n = struct_items structs (length structs) start n

abbrev marks : List Leaf → List Bool
marks cells = map (λ (c : Leaf). c.marked) cells

-- an object's cells have the marks of the leaves under which they lie
abbrev AreMarked : List StructInfo → VarTy → Type 0
AreMarked structs ty = marks (object_cells structs ty) ≡ map (mark_at structs ty) (type_items (items structs) 0 ty)

-- ---- fields

-- what is known of a field
record FieldKnown (structs : List StructInfo) (known : List (List sides.Leaf)) (f : Field) : Type 0 where
  same : type_leaves known f.ty ≡ sides.leaves_of structs f.ty
  below : list_all (λ x. nat_lt x (leaf_count structs f.ty)) (type_items (items structs) 0 f.ty) ≡ true
  marked : AreMarked structs f.ty

abbrev AllKnown : List StructInfo → List (List sides.Leaf) → List Field → Type 0
AllKnown structs known [] = Unit {0}
AllKnown structs known (f ∷ fs) = FieldKnown structs known f × AllKnown structs known fs

-- a field's cells, among those of the struct
field_marks : (structs : List StructInfo) (k far : ℕ) (secret : Bool) (ty : VarTy) (before rest : List sides.Leaf) → far ≡ length before → list_all (λ x. nat_lt x (leaf_count structs ty)) (type_items (items structs) 0 ty) ≡ true → AreMarked structs ty →
    marks (map (under secret) (object_cells structs ty)) ≡ map (λ l. (get_or (before ++ (map (leaf_of_field k secret) (sides.leaves_of structs ty) ++ rest)) l whole).marked) (type_items (items structs) far ty)
field_marks structs k far secret ty before rest is below own =
    map_of_map (λ (c : Leaf). c.marked) (under secret) (object_cells structs ty)
    ∙ sym (map_of_map (λ x. secret || x) (λ (c : Leaf). c.marked) (object_cells structs ty))
    ∙ ap (λ xs. map (λ x. secret || x) xs) own
    ∙ map_of_map (λ x. secret || x) (mark_at structs ty) (type_items (items structs) 0 ty)
    ∙ map_below (leaf_count structs ty) (λ l. secret || mark_at structs ty l) (λ l. whole_mark (far + l)) (type_items (items structs) 0 ty) below (λ l less. sym (at_leaf l less))
    ∙ sym (map_of_map whole_mark (λ l. far + l) (type_items (items structs) 0 ty))
    ∙ ap (λ xs. map whole_mark xs) (sym (type_shifts (items structs) (struct_shifts structs (length structs)) far 0 ty) ∙ ap (λ z. type_items (items structs) z ty) (plain far))
  where
    whole_mark : ℕ → Bool
    whole_mark l = (get_or (before ++ (map (leaf_of_field k secret) (sides.leaves_of structs ty) ++ rest)) l whole).marked

    plain : (a : ℕ) → a + 0 ≡ a
    plain a = omega arith

    at_leaf : (l : ℕ) → l < leaf_count structs ty → whole_mark (far + l) ≡ (secret || mark_at structs ty l)
    at_leaf l less = ap (λ (z : sides.Leaf). z.marked) (behind_these before (map (leaf_of_field k secret) (sides.leaves_of structs ty) ++ rest) far l whole is ∙ of_map (leaf_of_field k secret) (sides.leaves_of structs ty) rest l whole less)

-- the fields from this one on, which lie behind these leaves
fields_marks : (structs : List StructInfo) (known : List (List sides.Leaf)) (k far : ℕ) (before : List sides.Leaf) (fs : List Field) → far ≡ length before → AllKnown structs known fs →
    marks (flat_map (field_cells structs) fs) ≡ map (λ l. (get_or (before ++ fields_leaves known k fs) l whole).marked) (fields_items (leaf_count structs) (items structs) far fs)
fields_marks structs known k far before [] is h = refl
fields_marks structs known k far before (f ∷ fs) is h =
    map-append (λ (c : Leaf). c.marked) (field_cells structs f) (flat_map (field_cells structs) fs)
    ∙ ap (λ xs. xs ++ marks (flat_map (field_cells structs) fs)) (field_marks structs k far f.marked f.ty before (fields_leaves known (suc k) fs) is h.0.below h.0.marked ∙ ap (λ ls. map (λ l. (get_or (before ++ (map (leaf_of_field k f.marked) ls ++ fields_leaves known (suc k) fs)) l whole).marked) (type_items (items structs) far f.ty)) (sym h.0.same))
    ∙ ap (λ xs. map (λ l. (get_or (before ++ fields_leaves known k (f ∷ fs)) l whole).marked) (type_items (items structs) far f.ty) ++ xs)
    (fields_marks structs known (suc k) (far + leaf_count structs f.ty) (before ++ map (leaf_of_field k f.marked) (type_leaves known f.ty)) fs longer h.1
    ∙ ap (λ ls. map (λ l. (get_or ls l whole).marked) (fields_items (leaf_count structs) (items structs) (far + leaf_count structs f.ty) fs)) (append_assoc before (map (leaf_of_field k f.marked) (type_leaves known f.ty)) (fields_leaves known (suc k) fs)))
    ∙ sym (map-append (λ l. (get_or (before ++ fields_leaves known k (f ∷ fs)) l whole).marked) (type_items (items structs) far f.ty) (fields_items (leaf_count structs) (items structs) (far + leaf_count structs f.ty) fs))
  where
    longer : far + leaf_count structs f.ty ≡ length (before ++ map (leaf_of_field k f.marked) (type_leaves known f.ty))
    longer =
        let both = length-append before (map (leaf_of_field k f.marked) (type_leaves known f.ty)) in
        let one = length-map (type_leaves known f.ty) (leaf_of_field k f.marked) in
        let own = ap length h.0.same in
        omega (arith, is, both, one, own)

-- ---- objects

int_mark : (structs : List StructInfo) (t : IntType) → map (mark_at structs (Int t)) (type_items (items structs) 0 (Int t)) ≡ false ∷ []
unfolding sides.leaves_of
int_mark structs t = refl

int_marked : (structs : List StructInfo) (t : IntType) → AreMarked structs (Int t)
int_marked structs t = ap marks (leaves_of_int structs t) ∙ sym (int_mark structs t)

-- the elements of an array share their leaves
element_mark : (structs : List StructInfo) (elem : Elem) (count l : ℕ) → mark_at structs (type_of_elem elem) l ≡ mark_at structs (Array elem count) l
unfolding sides.leaves_of
element_mark structs (e.Int t) count l = refl
element_mark structs (e.Struct n) count l = refl

map_same : {B : Type 0} (f g : ℕ → B) (xs : List ℕ) → ((x : ℕ) → f x ≡ g x) → map f xs ≡ map g xs
map_same f g [] same = refl
map_same f g (x ∷ xs) same = ap (λ z. z ∷ map f xs) (same x) ∙ ap (λ ys. g x ∷ ys) (map_same f g xs same)

elem_object : (structs : List StructInfo) (elem : Elem) → object_cells structs (type_of_elem elem) ≡ leaves_of structs elem
elem_object structs (e.Int t) = refl
elem_object structs (e.Struct n) = refl

elem_type_items : (structs : List StructInfo) (elem : Elem) → type_items (items structs) 0 (type_of_elem elem) ≡ elem_items (items structs) 0 elem
elem_type_items structs (e.Int t) = refl
elem_type_items structs (e.Struct n) = refl

array_marked : (structs : List StructInfo) (elem : Elem) (count : ℕ) → AreMarked structs (type_of_elem elem) → AreMarked structs (Array elem count)
array_marked structs elem count h =
    map_repeated (λ (c : Leaf). c.marked) count (leaves_of structs elem)
    ∙ ap (λ xs. repeated count xs) (ap marks (sym (elem_object structs elem)) ∙ h ∙ ap (λ xs. map (mark_at structs (type_of_elem elem)) xs) (elem_type_items structs elem) ∙ map_same (mark_at structs (type_of_elem elem)) (mark_at structs (Array elem count)) (elem_items (items structs) 0 elem) (λ l. element_mark structs elem count l))
    ∙ sym (map_repeated (mark_at structs (Array elem count)) count (elem_items (items structs) 0 elem))

object_marked : (structs : List StructInfo) (n : ℕ) (ty : VarTy) → ((m : ℕ) → m < n → AreMarked structs (Struct m)) → is_plain_type n ty ≡ true → AreMarked structs ty
object_marked structs n (Int t) h plain = int_marked structs t
object_marked structs n (Struct m) h plain = h m (grind (arith, nat_tests, plain))
object_marked structs n (Array elem count) h plain = array_marked structs elem count (elem_marked elem (both_hold_first (is_elem n (Some elem)) (nat_le 1 count) plain))
  where
    elem_marked : (elem : Elem) → is_elem n (Some elem) ≡ true → AreMarked structs (type_of_elem elem)
    elem_marked (e.Int t) is = int_marked structs t
    elem_marked (e.Struct m) is = h m (grind (arith, nat_tests, is))
object_marked structs n (Pointer elem fixed) h plain = false_not_true plain

all_known : (structs : List StructInfo) (n : ℕ) (fs : List Field) → structs_sound structs 0 structs ≡ true → n ≤ length structs → ((m : ℕ) → m < n → AreMarked structs (Struct m)) → list_all (field_sound structs n) fs ≡ true → AllKnown structs (leaves_below structs n) fs
all_known structs n [] sound small h fine = tt
all_known structs n (f ∷ fs) sound small h fine =
    let plain = both_hold_first (is_plain_type n f.ty) (is_small structs f.ty) (both_hold_first (field_sound structs n f) (list_all (field_sound structs n) fs) fine) in (
      record {
        same = type_same structs n f.ty small plain;
        below = subst (λ z. list_all (λ x. nat_lt x z) (type_items (items structs) 0 f.ty) ≡ true) (none (leaf_count structs f.ty)) (items_below structs f.ty 0 sound (plain_more n (length structs) f.ty small plain));
        marked = object_marked structs n f.ty h plain;
      },
      all_known structs n fs sound small h (both_hold_second (field_sound structs n f) (list_all (field_sound structs n) fs) fine),
    )
  where
    none : (a : ℕ) → 0 + a ≡ a
    none a = omega arith

earlier : (structs : List StructInfo) → structs_sound structs 0 structs ≡ true → name_earlier 0 structs ≡ true
earlier structs sound = both_hold_first (name_earlier 0 structs) true (structs_stand structs [] sound refl)

there : (structs : List StructInfo) (n : ℕ) (d : StructInfo) → n < length structs → slice_get structs n ≡ Some (get_or structs n d)
there [] n d h = absurd (grind (arith, h))
there (x ∷ xs) zero d h = refl
there (x ∷ xs) (suc n) d h = there xs n d (omega (arith, h))

struct_marked : (structs : List StructInfo) → structs_sound structs 0 structs ≡ true → (d n : ℕ) → n < d → n < length structs → AreMarked structs (Struct n)
struct_marked structs sound zero n less small = absurd (grind (arith, less))
struct_marked structs sound (suc d) n less small =
    ap marks (leaves_of_struct structs n own (earlier structs sound) small (sym (got structs n own own (there structs n (record { name = []; fields = [] }) small))))
    ∙ fields_marks structs (leaves_below structs n) 0 0 [] (fields_of structs n) refl
    (all_known structs n (fields_of structs n) sound (omega (arith, small)) (λ m low. struct_marked structs sound d m (omega (arith, less, low)) (omega (arith, small, low))) (fields_sound structs n sound))
    ∙ ap (λ ls. map (λ l. (get_or ls l whole).marked) (fields_items (leaf_count structs) (items structs) 0 (fields_of structs n))) (sym (entry_of structs n (length structs) small) ∙ all_below structs (Struct n))
    ∙ ap (λ xs. map (mark_at structs (Struct n)) xs) (sym (depth_free structs sound (length structs) (suc (length structs)) 0 n small (omega (arith, small))))
  where
    own : StructInfo
    own = get_or structs n (record { name = []; fields = [] })

-- ---- what is pointed to

elem_cells_marked : (structs : List StructInfo) (elem : Elem) → structs_sound structs 0 structs ≡ true → is_elem (length structs) (Some elem) ≡ true → marks (leaves_of structs elem) ≡ map (mark_at structs (type_of_elem elem)) (cell_leaves structs (type_of_elem elem))
elem_cells_marked structs (e.Int t) sound is = int_marked structs t
elem_cells_marked structs (e.Struct n) sound is = struct_marked structs sound (length structs) n (grind (arith, nat_tests, is)) (grind (arith, nat_tests, is))

-- a cell of what is pointed to is marked as the leaf under which it lies
pub cells_are_marked : (structs : List StructInfo) (elem : Elem) (q : ℕ) (leaf : Leaf) → structs_sound structs 0 structs ≡ true → is_elem (length structs) (Some elem) ≡ true → slice_get (leaves_of structs elem) q ≡ Some leaf →
    leaf.marked ≡ (get_or (sides.leaves_of structs (type_of_elem elem)) (leaf_under structs (type_of_elem elem) q) whole).marked
cells_are_marked structs elem q leaf sound is at = go (slice_get (cell_leaves structs (type_of_elem elem)) q) refl
    (sym (get_map (mark_at structs (type_of_elem elem)) (cell_leaves structs (type_of_elem elem)) q) ∙ ap (λ xs. slice_get xs q) (sym (elem_cells_marked structs elem sound is)) ∙ get_map (λ (c : Leaf). c.marked) (leaves_of structs elem) q ∙ ap (λ o. option_map (λ (c : Leaf). c.marked) o) at)
  where
    go : (o : Option ℕ) → slice_get (cell_leaves structs (type_of_elem elem)) q ≡ o → option_map (mark_at structs (type_of_elem elem)) o ≡ Some leaf.marked → leaf.marked ≡ mark_at structs (type_of_elem elem) (leaf_under structs (type_of_elem elem) q)
    go None e h = cc
    go (Some l) e h = same (mark_at structs (type_of_elem elem) l) leaf.marked h ∙ ap (mark_at structs (type_of_elem elem)) (sym (got (cell_leaves structs (type_of_elem elem)) q l 0 e))
      where
        same : (a c : Bool) → Some a ≡ Some c → c ≡ a
        same a c k = cc

-- there are as many as its size
pub cells_are_counted : (structs : List StructInfo) (elem : Elem) → structs_sound structs 0 structs ≡ true → is_elem (length structs) (Some elem) ≡ true → length (leaves_of structs elem) ≡ elem_cells (sizes_of structs) elem
cells_are_counted structs elem sound is =
    sym (length-map (leaves_of structs elem) (λ (c : Leaf). c.marked)) ∙ ap length (elem_cells_marked structs elem sound is) ∙ length-map (cell_leaves structs (type_of_elem elem)) (mark_at structs (type_of_elem elem))
    ∙ cells_have_leaves structs (type_of_elem elem) sound (elem_plain (length structs) elem is) ∙ elem_size structs elem

-- ---- ranges

-- a cell among so many repetitions
record Repetition {A : Type 0} (xs : List A) (count r : ℕ) (x : A) : Type 0 where
  pub turn : ℕ
  pub place : ℕ
  pub below : turn < count
  pub within : place < length xs
  pub at : r ≡ turn * length xs + place
  pub is : slice_get xs place ≡ Some x

-- a number is less than this one, or behind it
data Side (n r : ℕ) : Type 0 where
  less : r < n → Side n r
  behind : (k : ℕ) → r ≡ n + k → Side n r

side_of : (n r : ℕ) → Side n r
side_of zero r = behind r (let k : r ≡ 0 + r = omega arith in k)
side_of (suc n) zero = less (omega arith)
side_of (suc n) (suc r) = go (side_of n r)
  where
    go : Side n r → Side (suc n) (suc r)
    go (less h) = less (omega (arith, h))
    go (behind k h) = behind k (let e : suc r ≡ suc n + k = omega (arith, h) in e)

repetition : {A : Type 0} (xs : List A) (count r : ℕ) (x : A) → slice_get (repeated count xs) r ≡ Some x → Repetition xs count r x
repetition xs zero r x h = cc
repetition {A} xs (suc count) r x h = go (side_of (length xs) r) (λ k e. repetition xs count k x e)
  where
    first : (r l : ℕ) → r ≡ 0 * l + r
    first r l = omega arith

    next : (r l j q k : ℕ) → r ≡ l + k → k ≡ j * l + q → r ≡ suc j * l + q
    next r l j q k h e = grind (arith, h, e)

    go : Side (length xs) r → ((k : ℕ) → slice_get (repeated count xs) k ≡ Some x → Repetition xs count k x) → Repetition xs (suc count) r x
    go (less low) later = record { turn = 0; place = r; below = omega arith; within = low; at = first r (length xs); is = sym (get_before xs (repeated count xs) r low) ∙ h }
    go (behind k e) later =
        let rest = later k (sym (get_after xs (repeated count xs) k) ∙ ap (λ z. slice_get (xs ++ repeated count xs) z) (sym e) ∙ h) in
        let low = rest.below in
        record { turn = suc rest.turn; place = rest.place; below = omega (arith, low); within = rest.within; at = next r (length xs) rest.turn rest.place k e rest.at; is = rest.is }

-- a cell of a range is one of an element's
pub range_cell : (structs : List StructInfo) (elem : Elem) (count r : ℕ) (leaf : Leaf) → structs_sound structs 0 structs ≡ true → is_elem (length structs) (Some elem) ≡ true → slice_get (range_leaves structs elem count) r ≡ Some leaf →
    (j : ℕ) × (q : ℕ) × (j < count) × (q < elem_cells (sizes_of structs) elem) × (r ≡ j * elem_cells (sizes_of structs) elem + q) × (slice_get (leaves_of structs elem) q ≡ Some leaf)
range_cell structs elem count r leaf sound is at =
    let all = repetition (leaves_of structs elem) count r leaf at in
    let size = cells_are_counted structs elem sound is in
    (all.turn, all.place, all.below, subst (λ z. all.place < z) size all.within, subst (λ z. r ≡ all.turn * z + all.place) size all.at, all.is)
