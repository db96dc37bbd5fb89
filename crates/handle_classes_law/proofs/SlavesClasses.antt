-- Classes of lowered values and places against those that marks give: fields, elements, what is pointed to.
use Rattle.std.proofs.Common.{◌≡◌, ◌∙◌, ◌≤◌, ◌<◌, ℕ, ◌+◌, ◌*◌, refl, ap, sym, subst, arith, Bool, true, false, Some, List, [], ◌∷◌, ◌++◌, length, map}
use Rattle.std.specs.Prelude.{◌||◌, ◌&&◌, nat_le}
use Rattle.std.specs.List.{list_any, list_all}
use Rattle.std.proofs.lemmas.Bool.Decides.{nat_tests}
use Rattle.pt_base.proofs.Booleans.{both_hold_second}
use Rattle.pt_tree.specs.declared.signature.Elem.{Elem}
use Rattle.pt_tree.specs.declared.signature.Elem.TheVariants as e
use Rattle.typed_tree.specs.declared.types.VarTy.{VarTy}
use Rattle.typed_tree.specs.declared.types.VarTy.TheVariants.{Int, Struct, Array, Pointer}
use Rattle.typed_tree.specs.declared.types.StructInfo.{StructInfo}
use Rattle.typed_tree.specs.Sizes.{sizes_of, elem_cells, cells_by}
use Rattle.typed_tree.specs.TypeTests.{type_of_elem}
use Rattle.typed_tree.specs.WellFormed.{is_plain_type, structs_sound}
use Rattle.typed_tree.specs.WellFormedExpression.{is_elem}
use Rattle.pt_core.specs.CodeTree.{PlaceTree, place}
use Rattle.pt_core.specs.Types.{Context, field_type, path_type, pointee_type, place_type, root_type}
use Rattle.pt_core.specs.Values.{offset_in}
use Rattle.pt_core.specs.WellFormedExpression.{is_field}
use Rattle.lowering.specs.Expressions.{place_with_field}
use Rattle.sides.specs.Leaves.{field_start}
use Rattle.handle_classes.specs.Classes.{Class, Scope, part, pointed_to, pointer_to, path_offset, along_class, place_class, root_class}
use Rattle.handle_classes.specs.Judgment.{IsWithin, AreAlike, IsFinePlace}
use Rattle.handle_classes_law.specs.ObjectsCells.{leaf_under, is_pointer, class_at}
use Rattle.handle_classes_law.proofs.ObjectsItems.{fields_lie_so, field_fits_in, elements_lie_alike}

-- ---- two relations

-- a value's class by that of the expression: of an integer, whether it may be a handle; of a pointer all
pub record IsBy (v k : Class) : Type 0 where
  pub kind : v.pointer ≡ k.pointer
  pub size : v.size ≡ k.size
  pub number : k.pointer ≡ false → v.may 0 ≡ true → k.may 0 ≡ true
  pub may : k.pointer ≡ true → (n : ℕ) → n < k.size → v.may n ≡ k.may n
  pub must : k.pointer ≡ true → (n : ℕ) → n < k.size → v.must n ≡ k.must n

-- a place's class, in its cells
pub record IsAt (v k : Class) : Type 0 where
  pub kind : v.pointer ≡ k.pointer
  pub size : v.size ≡ k.size
  pub may : (n : ℕ) → n < k.size → v.may n ≡ k.may n
  pub must : (n : ℕ) → n < k.size → v.must n ≡ k.must n

pub at_same : (k : Class) → IsAt k k
at_same k = record { kind = refl; size = refl; may = λ n less. refl; must = λ n less. refl }

pub by_same : (k : Class) → IsBy k k
by_same k = record { kind = refl; size = refl; number = λ p h. h; may = λ p n less. refl; must = λ p n less. refl }

pub at_equal : (v k : Class) → v ≡ k → IsAt v k
at_equal v k is = subst (λ z. IsAt v z) is (at_same v)

-- ---- lists of slots

pub any_map : (f : ℕ → Bool) (g : ℕ → ℕ) (xs : List ℕ) → list_any f (map g xs) ≡ list_any (λ x. f (g x)) xs
any_map f g [] = refl
any_map f g (x ∷ xs) = ap (λ z. f (g x) || z) (any_map f g xs)

pub all_map : (f : ℕ → Bool) (g : ℕ → ℕ) (xs : List ℕ) → list_all f (map g xs) ≡ list_all (λ x. f (g x)) xs
all_map f g [] = refl
all_map f g (x ∷ xs) = ap (λ z. f (g x) && z) (all_map f g xs)

pub any_same : (f g : ℕ → Bool) (xs : List ℕ) → ((x : ℕ) → f x ≡ g x) → list_any f xs ≡ list_any g xs
any_same f g [] h = refl
any_same f g (x ∷ xs) h = ap (λ z. z || list_any f xs) (h x) ∙ ap (λ z. g x || z) (any_same f g xs h)

pub all_same : (f g : ℕ → Bool) (xs : List ℕ) → ((x : ℕ) → f x ≡ g x) → list_all f xs ≡ list_all g xs
all_same f g [] h = refl
all_same f g (x ∷ xs) h = ap (λ z. z && list_all f xs) (h x) ∙ ap (λ z. g x && z) (all_same f g xs h)

abbrev pub behind : ℕ → List ℕ → List ℕ
behind a xs = map (λ s. s + a) xs

-- the leaves of a part, among those of the whole
may_behind : (m : ℕ → Bool) (a l l2 : ℕ) (xs : List ℕ) → l2 ≡ a + l → list_any (λ s. m (s + l2)) xs ≡ list_any (λ s. m (s + l)) (behind a xs)
may_behind m a l l2 xs is = any_same (λ s. m (s + l2)) (λ s. m (s + a + l)) xs (λ x. ap m (regroup x a l l2 is)) ∙ sym (any_map (λ s. m (s + l)) (λ s. s + a) xs)
  where
    regroup : (x a l l2 : ℕ) → l2 ≡ a + l → x + l2 ≡ x + a + l
    regroup x a l l2 is = omega (arith, is)

must_behind : (m : ℕ → Bool) (a l l2 : ℕ) (xs : List ℕ) → l2 ≡ a + l → list_all (λ s. m (s + l2)) xs ≡ list_all (λ s. m (s + l)) (behind a xs)
must_behind m a l l2 xs is = all_same (λ s. m (s + l2)) (λ s. m (s + a + l)) xs (λ x. ap m (regroup x a l l2 is)) ∙ sym (all_map (λ s. m (s + l)) (λ s. s + a) xs)
  where
    regroup : (x a l l2 : ℕ) → l2 ≡ a + l → x + l2 ≡ x + a + l
    regroup x a l l2 is = omega (arith, is)

-- ---- plain types

pub plain_pointee : (n : ℕ) (ty : VarTy) → is_plain_type n ty ≡ true → pointee_type ty ≡ ty
plain_pointee n (Int t) h = refl
plain_pointee n (Struct k) h = refl
plain_pointee n (Array elem count) h = refl
plain_pointee n (Pointer elem fixed) h = absurd (grind (arith, h))

pub plain_object : (n : ℕ) (ty : VarTy) → is_plain_type n ty ≡ true → is_pointer ty ≡ false
plain_object n (Int t) h = refl
plain_object n (Struct k) h = refl
plain_object n (Array elem count) h = refl
plain_object n (Pointer elem fixed) h = absurd (grind (arith, h))

-- ---- a field

offset_with : (structs : List StructInfo) (ty : VarTy) (path : List ℕ) (k : ℕ) → path_offset structs ty (path ++ k ∷ []) ≡ path_offset structs ty path + offset_in structs (path_type structs ty path) k
offset_with structs ty [] k = regroup (offset_in structs ty k)
  where
    regroup : (a : ℕ) → a + 0 ≡ 0 + a
    regroup a = omega arith
offset_with structs ty (j ∷ js) k = ap (λ z. offset_in structs ty j + z) (offset_with structs (field_type structs ty j) js k) ∙ regroup (offset_in structs ty j) (path_offset structs (field_type structs ty j) js) (offset_in structs (path_type structs (field_type structs ty j) js) k)
  where
    regroup : (a b c : ℕ) → a + (b + c) ≡ a + b + c
    regroup a b c = omega arith

along_with : (c : Context) (ty inner : VarTy) (path : List ℕ) (k : ℕ) (of : Class) → along_class c ty inner (path ++ k ∷ []) of ≡ part (path_offset c.structs ty (path ++ k ∷ [])) (cells_by (sizes_of c.structs) inner) of
along_with c ty inner [] k of = refl
along_with c ty inner (j ∷ js) k of = refl

pub along_may : (c : Context) (ty inner : VarTy) (path : List ℕ) (of : Class) (n : ℕ) → (along_class c ty inner path of).may n ≡ of.may (path_offset c.structs ty path + n)
along_may c ty inner [] of n = ap of.may (let e : n ≡ 0 + n = omega arith in e)
along_may c ty inner (j ∷ js) of n = refl

pub along_must : (c : Context) (ty inner : VarTy) (path : List ℕ) (of : Class) (n : ℕ) → (along_class c ty inner path of).must n ≡ of.must (path_offset c.structs ty path + n)
along_must c ty inner [] of n = ap of.must (let e : n ≡ 0 + n = omega arith in e)
along_must c ty inner (j ∷ js) of n = refl

-- how far a place leads into what its root is, and that it stays within
abbrev pub far_into : Scope → PlaceTree → ℕ
far_into s (place root path) = path_offset s.context.structs (root_type s.context root) path

abbrev pub root_in : Scope → PlaceTree → Class
root_in s (place root path) = root_class s root

pub record PlaceClass (m : ℕ → Bool) (s : Scope) (ty : VarTy) (slots : List ℕ) (p : PlaceTree) : Type 0 where
  pub fine : IsFinePlace s p
  pub is : IsAt (place_class s p) (class_at m s.context.structs ty slots)
  pub object : is_pointer ty ≡ false → (root_in s p).pointer ≡ false
  pub room : is_pointer ty ≡ false → far_into s p + cells_by (sizes_of s.context.structs) ty ≤ (root_in s p).size

within_with : (c : Context) (ty inner : VarTy) (path : List ℕ) (k : ℕ) (of : Class) → of.pointer ≡ false → path_offset c.structs ty (path ++ k ∷ []) + cells_by (sizes_of c.structs) inner ≤ of.size → IsWithin c ty inner (path ++ k ∷ []) of
within_with c ty inner [] k of h room = (h, room)
within_with c ty inner (j ∷ js) k of h room = (h, room)

pub field_class : (m : ℕ → Bool) (s : Scope) (n k : ℕ) (u : VarTy) (slots : List ℕ) (p : PlaceTree) → structs_sound s.context.structs 0 s.context.structs ≡ true → is_field s.context.structs (Struct n) k ≡ true → field_type s.context.structs (Struct n) k ≡ u → is_plain_type (length s.context.structs) u ≡ true →
    place_type s.context p ≡ Struct n → place_type s.context (place_with_field p k) ≡ u → PlaceClass m s (Struct n) slots p → PlaceClass m s u (behind (field_start s.context.structs n k) slots) (place_with_field p k)
field_class m s n k u slots (place root path) sound field is plain at at2 h = record {
  fine = (h.fine.0, within_with s.context (root_type s.context root) (place_type s.context (place root (path ++ k ∷ []))) path k (root_class s root) (h.object refl) (subst (λ z. path_offset s.context.structs (root_type s.context root) (path ++ k ∷ []) + cells_by (sizes_of s.context.structs) z ≤ (root_class s root).size) (sym at2) fits));
  is = record {
    kind = ap (λ (z : Class). z.pointer) there ∙ sym (plain_object (length s.context.structs) u plain);
    size = ap (λ (z : Class). z.size) there ∙ ap (λ z. cells_by (sizes_of s.context.structs) z) (at2 ∙ sym (plain_pointee (length s.context.structs) u plain));
    may = λ j less. along_may s.context (root_type s.context root) (place_type s.context (place root (path ++ k ∷ []))) (path ++ k ∷ []) (root_class s root) j ∙ ap (root_class s root).may (far j)
        ∙ sym (along_may s.context (root_type s.context root) (place_type s.context (place root path)) path (root_class s root) (offset_in s.context.structs (Struct n) k + j))
        ∙ h.is.may (offset_in s.context.structs (Struct n) k + j) (inside j less)
        ∙ may_behind m (field_start s.context.structs n k) (leaf_under s.context.structs (pointee_type u) j) (leaf_under s.context.structs (Struct n) (offset_in s.context.structs (Struct n) k + j)) slots (leaf j less);
    must = λ j less. along_must s.context (root_type s.context root) (place_type s.context (place root (path ++ k ∷ []))) (path ++ k ∷ []) (root_class s root) j ∙ ap (root_class s root).must (far j)
        ∙ sym (along_must s.context (root_type s.context root) (place_type s.context (place root path)) path (root_class s root) (offset_in s.context.structs (Struct n) k + j))
        ∙ h.is.must (offset_in s.context.structs (Struct n) k + j) (inside j less)
        ∙ must_behind m (field_start s.context.structs n k) (leaf_under s.context.structs (pointee_type u) j) (leaf_under s.context.structs (Struct n) (offset_in s.context.structs (Struct n) k + j)) slots (leaf j less);
  };
  object = λ q. h.object refl;
  room = λ q. fits;
}
  where
    there : place_class s (place root (path ++ k ∷ [])) ≡ part (path_offset s.context.structs (root_type s.context root) (path ++ k ∷ [])) (cells_by (sizes_of s.context.structs) (place_type s.context (place root (path ++ k ∷ [])))) (root_class s root)
    there = along_with s.context (root_type s.context root) (place_type s.context (place root (path ++ k ∷ []))) path k (root_class s root)

    whole : path_offset s.context.structs (root_type s.context root) (path ++ k ∷ []) ≡ path_offset s.context.structs (root_type s.context root) path + offset_in s.context.structs (Struct n) k
    whole = offset_with s.context.structs (root_type s.context root) path k ∙ ap (λ z. path_offset s.context.structs (root_type s.context root) path + offset_in s.context.structs z k) at

    far : (j : ℕ) → path_offset s.context.structs (root_type s.context root) (path ++ k ∷ []) + j ≡ path_offset s.context.structs (root_type s.context root) path + (offset_in s.context.structs (Struct n) k + j)
    far j = let w = whole in omega (arith, w)

    own : cells_by (sizes_of s.context.structs) (field_type s.context.structs (Struct n) k) ≡ cells_by (sizes_of s.context.structs) u
    own = ap (λ z. cells_by (sizes_of s.context.structs) z) is

    -- the field lies within
    bound : offset_in s.context.structs (Struct n) k + cells_by (sizes_of s.context.structs) u ≤ cells_by (sizes_of s.context.structs) (Struct n)
    bound = subst (λ z. offset_in s.context.structs (Struct n) k + cells_by (sizes_of s.context.structs) z ≤ cells_by (sizes_of s.context.structs) (Struct n)) is (field_fits_in s.context.structs n k sound field)

    fits : path_offset s.context.structs (root_type s.context root) (path ++ k ∷ []) + cells_by (sizes_of s.context.structs) u ≤ (root_class s root).size
    fits = let w = whole in let b = bound in let r = h.room refl in omega (arith, w, b, r)

    small : (j : ℕ) → j < cells_by (sizes_of s.context.structs) (pointee_type u) → j < cells_by (sizes_of s.context.structs) (field_type s.context.structs (Struct n) k)
    small j less = let o = own in let z = ap (λ z. cells_by (sizes_of s.context.structs) z) (plain_pointee (length s.context.structs) u plain) in omega (arith, less, o, z)

    inside : (j : ℕ) → j < cells_by (sizes_of s.context.structs) (pointee_type u) → offset_in s.context.structs (Struct n) k + j < cells_by (sizes_of s.context.structs) (Struct n)
    inside j less = let b = bound in let z = ap (λ z. cells_by (sizes_of s.context.structs) z) (plain_pointee (length s.context.structs) u plain) in omega (arith, less, b, z)

    leaf : (j : ℕ) → j < cells_by (sizes_of s.context.structs) (pointee_type u) → leaf_under s.context.structs (Struct n) (offset_in s.context.structs (Struct n) k + j) ≡ field_start s.context.structs n k + leaf_under s.context.structs (pointee_type u) j
    leaf j less = (fields_lie_so s.context.structs n k j sound field (small j less)).1 ∙ ap (λ z. field_start s.context.structs n k + leaf_under s.context.structs z j) (is ∙ sym (plain_pointee (length s.context.structs) u plain))

-- ---- what is pointed to

pub deref_class : (m : ℕ → Bool) (structs : List StructInfo) (elem : Elem) (fixed : Bool) (slots : List ℕ) (v : Class) → IsBy v (class_at m structs (Pointer elem fixed) slots) → IsAt (pointed_to v) (class_at m structs (type_of_elem elem) slots)
deref_class m structs (e.Int t) fixed slots v h = record { kind = refl; size = h.size; may = h.may refl; must = h.must refl }
deref_class m structs (e.Struct n) fixed slots v h = record { kind = refl; size = h.size; may = h.may refl; must = h.must refl }

-- a pointer to an object of an element's type
pub address_class : (m : ℕ → Bool) (structs : List StructInfo) (elem : Elem) (fixed : Bool) (slots : List ℕ) (v : Class) (size : ℕ) → size ≡ elem_cells (sizes_of structs) elem → IsAt v (class_at m structs (type_of_elem elem) slots) → IsBy (pointer_to size v) (class_at m structs (Pointer elem fixed) slots)
address_class m structs (e.Int t) fixed slots v size is h = record { kind = refl; size = is; number = λ p. absurd (grind (arith, p)); may = λ p. h.may; must = λ p. h.must }
address_class m structs (e.Struct n) fixed slots v size is h = record { kind = refl; size = is; number = λ p. absurd (grind (arith, p)); may = λ p. h.may; must = λ p. h.must }

-- ---- elements

less_in : (i n count size : ℕ) → i < count → n < size → i * size + n < count * size
less_in i n count size h k = grind (arith, h, k)

pub elem_pointee : (elem : Elem) → pointee_type (type_of_elem elem) ≡ type_of_elem elem
elem_pointee (e.Int t) = refl
elem_pointee (e.Struct n) = refl

pub elem_size : (structs : List StructInfo) (elem : Elem) → cells_by (sizes_of structs) (type_of_elem elem) ≡ elem_cells (sizes_of structs) elem
elem_size structs (e.Int t) = refl
elem_size structs (e.Struct n) = refl

-- the cells of an array's object lie alike
pub array_alike : (m : ℕ → Bool) (structs : List StructInfo) (elem : Elem) (count : ℕ) (slots : List ℕ) (v : Class) → structs_sound structs 0 structs ≡ true → is_plain_type (length structs) (Array elem count) ≡ true →
    IsAt v (class_at m structs (Array elem count) slots) → AreAlike v (elem_cells (sizes_of structs) elem) count
array_alike m structs elem count slots v sound plain h = record {
  within = λ i n less small. let one = less_in i n count (elem_cells (sizes_of structs) elem) less small in let z = h.size in omega (arith, one, z);
  may = λ i n less small. h.may (i * elem_cells (sizes_of structs) elem + n) (less_in i n count (elem_cells (sizes_of structs) elem) less small)
      ∙ any_same (λ s. m (s + leaf_under structs (Array elem count) (i * elem_cells (sizes_of structs) elem + n))) (λ s. m (s + leaf_under structs (Array elem count) n)) slots (λ x. ap (λ z. m (x + z)) (both i n less small))
      ∙ sym (h.may n (first n count (elem_cells (sizes_of structs) elem) i less small));
  must = λ i n less small. h.must (i * elem_cells (sizes_of structs) elem + n) (less_in i n count (elem_cells (sizes_of structs) elem) less small)
      ∙ all_same (λ s. m (s + leaf_under structs (Array elem count) (i * elem_cells (sizes_of structs) elem + n))) (λ s. m (s + leaf_under structs (Array elem count) n)) slots (λ x. ap (λ z. m (x + z)) (both i n less small))
      ∙ sym (h.must n (first n count (elem_cells (sizes_of structs) elem) i less small));
}
  where
    first : (n count size i : ℕ) → i < count → n < size → n < count * size
    first n count size i h k = let one = less_in 0 n count size (omega (arith, h)) k in omega (arith, one)

    start : (n : ℕ) → n ≡ 0 * elem_cells (sizes_of structs) elem + n
    start n = omega arith

    both : (i n : ℕ) → i < count → n < elem_cells (sizes_of structs) elem → leaf_under structs (Array elem count) (i * elem_cells (sizes_of structs) elem + n) ≡ leaf_under structs (Array elem count) n
    both i n less small =
        elements_lie_alike structs elem count i n sound plain less small
        ∙ sym (elements_lie_alike structs elem count 0 n sound plain (omega (arith, less)) small)
        ∙ ap (λ z. leaf_under structs (Array elem count) z) (sym (start n))

-- an array as a pointer to its first element
pub decay_class : (m : ℕ → Bool) (structs : List StructInfo) (elem : Elem) (count : ℕ) (fixed : Bool) (slots : List ℕ) (v : Class) (size : ℕ) → structs_sound structs 0 structs ≡ true → is_plain_type (length structs) (Array elem count) ≡ true →
    size ≡ elem_cells (sizes_of structs) elem → IsAt v (class_at m structs (Array elem count) slots) → IsBy (pointer_to size v) (class_at m structs (Pointer elem fixed) slots)
decay_class m structs elem count fixed slots v size sound plain is h = record {
  kind = refl;
  size = is ∙ sym (elem_size structs elem);
  number = λ p. absurd (grind (arith, p));
  may = λ p n less. h.may n (inside n (within n less))
      ∙ any_same (λ s. m (s + leaf_under structs (Array elem count) n)) (λ s. m (s + leaf_under structs (type_of_elem elem) n)) slots (λ x. ap (λ z. m (x + z)) (leaf n (within n less)));
  must = λ p n less. h.must n (inside n (within n less))
      ∙ all_same (λ s. m (s + leaf_under structs (Array elem count) n)) (λ s. m (s + leaf_under structs (type_of_elem elem) n)) slots (λ x. ap (λ z. m (x + z)) (leaf n (within n less)));
}
  where
    some_count : 0 < count
    some_count = let one = both_hold_second (is_elem (length structs) (Some elem)) (nat_le 1 count) plain in grind (arith, nat_tests, one)

    within : (n : ℕ) → n < cells_by (sizes_of structs) (type_of_elem elem) → n < elem_cells (sizes_of structs) elem
    within n less = let z = elem_size structs elem in omega (arith, less, z)

    inside : (n : ℕ) → n < elem_cells (sizes_of structs) elem → n < count * elem_cells (sizes_of structs) elem
    inside n less = let one = less_in 0 n count (elem_cells (sizes_of structs) elem) some_count less in omega (arith, one)

    start : (n : ℕ) → n ≡ 0 * elem_cells (sizes_of structs) elem + n
    start n = omega arith

    leaf : (n : ℕ) → n < elem_cells (sizes_of structs) elem → leaf_under structs (Array elem count) n ≡ leaf_under structs (type_of_elem elem) n
    leaf n less = ap (λ z. leaf_under structs (Array elem count) z) (start n) ∙ elements_lie_alike structs elem count 0 n sound plain some_count less
