-- The leaves of structs, as they are counted and gone over.
use Rattle.std.proofs.Common.{◌≡◌, ◌∙◌, ◌≤◌, ◌<◌, ℕ, zero, suc, ◌+◌, ◌-◌, refl, ap, sym, arith, Bool, false, Option, Some, None, List, [], ◌∷◌, ◌++◌, length, length-append, map, append_assoc}
use Rattle.std.specs.Prelude.{◌||◌, slice_get, get_or, take}
use Rattle.std.proofs.Math.ListN.{get_or-append}
use Rattle.std.proofs.Math.Seq.{get_or-append_seam}
use Rattle.std.proofs.lemmas.List.{append-nil, length-map, map-append, take_all, get_or_past}
use Rattle.std.proofs.lemmas.Option.{get_or_from_slice_get}
use Rattle.pt_base.proofs.Booleans.{or_assoc, or_with_false}
use Rattle.pt_tree.specs.declared.signature.Elem.{Elem}
use Rattle.pt_tree.specs.declared.signature.Elem.TheVariants as e
use Rattle.typed_tree.specs.declared.types.VarTy.{VarTy}
use Rattle.typed_tree.specs.declared.types.VarTy.TheVariants.{Int, Struct, Array, Pointer}
use Rattle.typed_tree.specs.declared.types.Field.{Field}
use Rattle.typed_tree.specs.declared.types.StructInfo.{StructInfo}
use Rattle.typed_tree.specs.Sizes.{fields_of}
use Rattle.sides.specs.declared.slots.Owner.{Owner}
use Rattle.sides.specs.declared.slots.SlotInfo.{SlotInfo}
use Rattle.sides.specs.Leaves.{Leaf, whole, leaf_of_field, elem_leaves, type_leaves, fields_leaves, leaves_after, leaves_of, leaf_count, field_starts, field_start}
use Rattle.sides.specs.Slots.{slot_of}
use Rattle.sides.specs.LeafTables.{leaves_below, slot_behind, named_struct, named_leaves, elem_count, type_count, fields_count, counts_after, counts_of}

-- ---- counting

count_at : (known : List (List Leaf)) (n : ℕ) → get_or (map length known) n 0 ≡ length (get_or known n [])
count_at [] n = refl
count_at (ls ∷ known) zero = refl
count_at (ls ∷ known) (suc n) = count_at known n

elem_counted : (known : List (List Leaf)) (elem : Elem) → elem_count (map length known) elem ≡ length (elem_leaves known elem)
elem_counted known (e.Int t) = refl
elem_counted known (e.Struct n) = count_at known n

type_counted : (known : List (List Leaf)) (ty : VarTy) → type_count (map length known) ty ≡ length (type_leaves known ty)
type_counted known (Int t) = refl
type_counted known (Struct n) = count_at known n
type_counted known (Array elem count) = elem_counted known elem
type_counted known (Pointer elem fixed) = elem_counted known elem

fields_counted : (known : List (List Leaf)) (k : ℕ) (fs : List Field) → fields_count (map length known) fs ≡ length (fields_leaves known k fs)
fields_counted known k [] = refl
fields_counted known k (f ∷ fs) =
    let first = type_counted known f.ty in
    let rest = fields_counted known (suc k) fs in
    let joined = length-append (map (leaf_of_field k f.marked) (type_leaves known f.ty)) (fields_leaves known (suc k) fs) in
    let same = length-map (type_leaves known f.ty) (leaf_of_field k f.marked) in
    omega (arith, first, rest, joined, same)

pub counts_are : (known : List (List Leaf)) (ss : List StructInfo) → counts_after (map length known) ss ≡ map length (leaves_after known ss)
counts_are known [] = refl
counts_are known (s ∷ ss) =
    ap (λ xs. counts_after xs ss) (ap (λ n. map length known ++ n ∷ []) (fields_counted known 0 s.fields) ∙ sym (map-append length known (fields_leaves known 0 s.fields ∷ [])))
    ∙ counts_are (known ++ fields_leaves known 0 s.fields ∷ []) ss

pub count_is : (structs : List StructInfo) (ty : VarTy) → type_count (counts_of structs) ty ≡ leaf_count structs ty
unfolding leaves_of
count_is structs ty = type_counted (leaves_after [] structs) ty

-- ---- the table of leaves

one_more : (known : List (List Leaf)) (ls : List Leaf) → length (known ++ ls ∷ []) ≡ suc (length known)
one_more known ls = let long = length-append known (ls ∷ []) in omega (arith, long)

-- what the table has said it says at the end
stays : (ss : List StructInfo) (known : List (List Leaf)) (j : ℕ) → j < length known → get_or (leaves_after known ss) j [] ≡ get_or known j []
stays [] known j h = refl
stays (s ∷ ss) known j h =
    let long = one_more known (fields_leaves known 0 s.fields) in
    stays ss (known ++ fields_leaves known 0 s.fields ∷ []) j (omega (arith, long)) ∙ get_or-append known (fields_leaves known 0 s.fields ∷ []) [] j h

size_after : (ss : List StructInfo) (known : List (List Leaf)) → length (leaves_after known ss) ≡ length known + length ss
size_after [] known = omega arith
size_after (s ∷ ss) known =
    let long = one_more known (fields_leaves known 0 s.fields) in
    let rest = size_after ss (known ++ fields_leaves known 0 s.fields ∷ []) in
    omega (arith, long, rest)

entry_from : (known : List (List Leaf)) (structs : List StructInfo) (n limit : ℕ) (s : StructInfo) → slice_get structs n ≡ Some s → n < limit →
    get_or (leaves_after known (take limit structs)) (length known + n) [] ≡ fields_leaves (leaves_after known (take n structs)) 0 s.fields
entry_from known [] n limit s is lt = cc
entry_from known (x ∷ xs) n zero s is lt = absurd (omega arith)
entry_from known (x ∷ xs) zero (suc limit) s is lt =
    ap (λ j. get_or (leaves_after (known ++ fields_leaves known 0 x.fields ∷ []) (take limit xs)) j []) (let e : length known + 0 ≡ length known = omega arith in e)
    ∙ stays (take limit xs) (known ++ fields_leaves known 0 x.fields ∷ []) (length known) (let more = one_more known (fields_leaves known 0 x.fields) in omega (arith, more))
    ∙ get_or-append_seam known (fields_leaves known 0 x.fields) [] []
    ∙ ap (λ (z : StructInfo). fields_leaves known 0 z.fields) (same is)
  where
    same : Some x ≡ Some s → x ≡ s
    same h = cc
entry_from known (x ∷ xs) (suc n) (suc limit) s is lt =
    let more = one_more known (fields_leaves known 0 x.fields) in
    ap (λ j. get_or (leaves_after (known ++ fields_leaves known 0 x.fields ∷ []) (take limit xs)) j []) (let e : length known + suc n ≡ length (known ++ fields_leaves known 0 x.fields ∷ []) + n = omega (arith, more) in e)
    ∙ entry_from (known ++ fields_leaves known 0 x.fields ∷ []) xs n limit s is (omega arith)

-- a struct of the first so many has the leaves of its fields, by those of the structs before it
pub entry_is : (structs : List StructInfo) (n limit : ℕ) (s : StructInfo) → slice_get structs n ≡ Some s → n < limit → get_or (leaves_below structs limit) n [] ≡ fields_leaves (leaves_below structs n) 0 s.fields
entry_is structs n limit s is lt = ap (λ j. get_or (leaves_below structs limit) j []) (let e : n ≡ 0 + n = omega arith in e) ∙ entry_from [] structs n limit s is lt

short : (structs : List StructInfo) (n : ℕ) → length (take n structs) ≤ n
short [] zero = omega arith
short [] (suc n) = omega arith
short (x ∷ xs) zero = omega arith
short (x ∷ xs) (suc n) = omega (arith, short xs n)

pub no_entry_past : (structs : List StructInfo) (n limit : ℕ) → limit ≤ n → get_or (leaves_below structs limit) n [] ≡ []
no_entry_past structs n limit ge =
    let size = size_after (take limit structs) [] in
    let few = short structs limit in
    get_or_past (leaves_below structs limit) n [] (omega (arith, size, few))

pub no_entry : (structs : List StructInfo) (n limit : ℕ) → slice_get structs n ≡ None → get_or (leaves_below structs limit) n [] ≡ []
no_entry structs n limit is =
    let size = size_after (take limit structs) [] in
    get_or_past (leaves_below structs limit) n [] (let few = past structs n limit is in omega (arith, size, few))
  where
    past : (structs : List StructInfo) (n limit : ℕ) → slice_get structs n ≡ None → length (take limit structs) ≤ n
    past [] n zero is = omega arith
    past [] n (suc limit) is = omega arith
    past (x ∷ xs) n zero is = omega arith
    past (x ∷ xs) zero (suc limit) is = cc
    past (x ∷ xs) (suc n) (suc limit) is = omega (arith, past xs n limit is)

none_at : (structs : List StructInfo) (n : ℕ) (d : StructInfo) → slice_get structs n ≡ None → get_or structs n d ≡ d
none_at [] n d h = refl
none_at (s ∷ ss) zero d h = cc
none_at (s ∷ ss) (suc n) d h = none_at ss n d h

-- the same of any number; a struct that isn't there has no fields
pub entry_of : (structs : List StructInfo) (n limit : ℕ) → n < limit → get_or (leaves_below structs limit) n [] ≡ fields_leaves (leaves_below structs n) 0 (fields_of structs n)
entry_of structs n limit lt = go (slice_get structs n) refl
  where
    go : (o : Option StructInfo) → slice_get structs n ≡ o → get_or (leaves_below structs limit) n [] ≡ fields_leaves (leaves_below structs n) 0 (fields_of structs n)
    go None e = no_entry structs n limit e ∙ ap (λ (s : StructInfo). fields_leaves (leaves_below structs n) 0 s.fields) (sym (none_at structs n (record { name = []; fields = [] }) e))
    go (Some s) e = entry_is structs n limit s e lt ∙ ap (λ (s : StructInfo). fields_leaves (leaves_below structs n) 0 s.fields) (sym (get_or_from_slice_get structs n s (record { name = []; fields = [] }) e))

-- all structs
pub all_below : (structs : List StructInfo) (ty : VarTy) → type_leaves (leaves_below structs (length structs)) ty ≡ leaves_of structs ty
unfolding leaves_of
all_below structs ty = ap (λ ss. type_leaves (leaves_after [] ss) ty) (take_all (length structs) structs (omega arith))

-- ---- slots of leaves

behind_field : (owner : Owner) (path : List ℕ) (marked : Bool) (k : ℕ) (field : Bool) (leaf : Leaf) → slot_behind owner path marked (leaf_of_field k field leaf) ≡ slot_behind owner (path ++ k ∷ []) (marked || field) leaf
behind_field owner path marked k field leaf =
    let paths : path ++ (k ∷ leaf.path) ≡ (path ++ k ∷ []) ++ leaf.path = sym (append_assoc path (k ∷ []) leaf.path) in
    let marks = or_assoc marked field leaf.marked in
    λ i. record { owner = owner; path = paths i; marked = marks i }

pub behind_fields : (owner : Owner) (path : List ℕ) (marked : Bool) (k : ℕ) (field : Bool) (ls : List Leaf) → map (slot_behind owner path marked) (map (leaf_of_field k field) ls) ≡ map (slot_behind owner (path ++ k ∷ []) (marked || field)) ls
behind_fields owner path marked k field [] = refl
behind_fields owner path marked k field (l ∷ ls) =
    ap (λ x. x ∷ map (slot_behind owner path marked) (map (leaf_of_field k field) ls)) (behind_field owner path marked k field l)
    ∙ ap (λ xs. slot_behind owner (path ++ k ∷ []) (marked || field) l ∷ xs) (behind_fields owner path marked k field ls)

-- the slot of a leaf that is all of an object
pub leaf_is : (owner : Owner) (path : List ℕ) (marked : Bool) → slot_behind owner path marked whole ≡ record { owner = owner; path = path; marked = marked }
leaf_is owner path marked =
    let paths = append-nil path in
    let marks = or_with_false marked in
    λ i. record { owner = owner; path = paths i; marked = marks i }

pub named_is : (known : List (List Leaf)) (ty : VarTy) → named_leaves known (named_struct ty) ≡ type_leaves known ty
named_is known (Int t) = refl
named_is known (Struct n) = refl
named_is known (Array (e.Int t) count) = refl
named_is known (Array (e.Struct n) count) = refl
named_is known (Pointer (e.Int t) fixed) = refl
named_is known (Pointer (e.Struct n) fixed) = refl

-- after the slots of one more field
pub field_behind : (owner : Owner) (path : List ℕ) (marked : Bool) (known : List (List Leaf)) (k : ℕ) (f : Field) (fs : List Field) (s s' all : List SlotInfo) →
    s' ≡ s ++ map (slot_behind owner (path ++ k ∷ []) (marked || f.marked)) (named_leaves known (named_struct f.ty)) →
    s ++ map (slot_behind owner path marked) (fields_leaves known k (f ∷ fs)) ≡ all → s' ++ map (slot_behind owner path marked) (fields_leaves known (suc k) fs) ≡ all
field_behind owner path marked known k f fs s s' all e h =
    ap (λ xs. xs ++ map (slot_behind owner path marked) (fields_leaves known (suc k) fs)) e
    ∙ append_assoc s (map (slot_behind owner (path ++ k ∷ []) (marked || f.marked)) (named_leaves known (named_struct f.ty))) (map (slot_behind owner path marked) (fields_leaves known (suc k) fs))
    ∙ ap (λ ls. s ++ (map (slot_behind owner (path ++ k ∷ []) (marked || f.marked)) ls ++ map (slot_behind owner path marked) (fields_leaves known (suc k) fs))) (named_is known f.ty)
    ∙ ap (λ xs. s ++ (xs ++ map (slot_behind owner path marked) (fields_leaves known (suc k) fs))) (sym (behind_fields owner path marked k f.marked (type_leaves known f.ty)))
    ∙ ap (λ xs. s ++ xs) (sym (map-append (slot_behind owner path marked) (map (leaf_of_field k f.marked) (type_leaves known f.ty)) (fields_leaves known (suc k) fs)))
    ∙ h

-- ---- counts by the table

-- types have as many leaves by the table as there are
pub counts_alike : (structs : List StructInfo) (counts : List ℕ) → counts ≡ counts_of structs → type_count counts ≡ leaf_count structs
counts_alike structs counts e = ap type_count e ∙ (λ i ty. count_is structs ty i)

pub start_is : (structs : List StructInfo) (starts : List (List ℕ)) (n k : ℕ) → starts ≡ map (λ s. field_starts (leaf_count structs) 0 s.fields) structs → get_or (get_or starts n []) k 0 ≡ field_start structs n k
start_is structs starts n k e = ap (λ xs. get_or (get_or xs n []) k 0) e ∙ ap (λ xs. get_or xs k 0) (at structs n)
  where
    at : (ss : List StructInfo) (n : ℕ) → get_or (map (λ s. field_starts (leaf_count structs) 0 s.fields) ss) n [] ≡ field_starts (leaf_count structs) 0 (fields_of ss n)
    at [] n = refl
    at (s ∷ ss) zero = refl
    at (s ∷ ss) (suc n) = at ss n

-- ---- whole objects

pub object_is : (structs : List StructInfo) (owner : Owner) (ty : VarTy) (path : List ℕ) (bound : ℕ) (of : Option ℕ) → path ≡ [] → bound ≡ length structs → of ≡ named_struct ty →
    map (slot_behind owner path false) (named_leaves (leaves_below structs bound) of) ≡ map (slot_of owner) (leaves_of structs ty)
object_is structs owner ty path bound of ep eb eo =
    (λ i. map (slot_behind owner (ep i) false) (named_leaves (leaves_below structs (eb i)) (eo i)))
    ∙ ap (map (slot_of owner)) (named_is (leaves_below structs (length structs)) ty ∙ all_below structs ty)

-- ---- the walk over fields

-- no struct is behind the bound
pub none_behind : (structs : List StructInfo) (owner : Owner) (path : List ℕ) (marked : Bool) (n bound : ℕ) (of : Option ℕ) (s : List SlotInfo) → of ≡ Some n → bound ≤ n →
    s ≡ s ++ map (slot_behind owner path marked) (named_leaves (leaves_below structs bound) of)
none_behind structs owner path marked n bound of s e le =
    sym (ap (λ ls. s ++ map (slot_behind owner path marked) ls) (ap (named_leaves (leaves_below structs bound)) e ∙ no_entry_past structs n bound le) ∙ append-nil s)

-- after the last field
pub fields_done : (structs : List StructInfo) (owner : Owner) (path : List ℕ) (marked : Bool) (n bound k : ℕ) (of : Option ℕ) (fs rest : List Field) (s s' : List SlotInfo) → of ≡ Some n → n < bound → fs ≡ fields_of structs n → rest ≡ [] →
    s' ++ map (slot_behind owner path marked) (fields_leaves (leaves_below structs n) k rest) ≡ s ++ map (slot_behind owner path marked) (fields_leaves (leaves_below structs n) 0 fs) →
    s' ≡ s ++ map (slot_behind owner path marked) (named_leaves (leaves_below structs bound) of)
fields_done structs owner path marked n bound k of fs rest s s' eo lt ef er h =
    sym (append-nil s')
    ∙ ap (λ xs. s' ++ map (slot_behind owner path marked) (fields_leaves (leaves_below structs n) k xs)) (sym er)
    ∙ h
    ∙ ap (λ ls. s ++ map (slot_behind owner path marked) ls) (ap (fields_leaves (leaves_below structs n) 0) ef ∙ sym (entry_of structs n bound lt) ∙ ap (named_leaves (leaves_below structs bound)) (sym eo))

-- what is taken off is what was put on
pub popped : (xs all less : List ℕ) (n long : ℕ) → all ≡ xs ++ n ∷ [] → long ≡ length all → less ≡ take (long - 1) all → less ≡ xs
popped xs all less n long e el h =
    let more = length-append xs (n ∷ []) in
    let same = ap length e in
    let k : long - 1 ≡ length xs = omega (arith, more, same, el) in
    h ∙ ap (λ j. take j all) k ∙ ap (take (length xs)) e ∙ left xs
  where
    left : (ys : List ℕ) → take (length ys) (ys ++ n ∷ []) ≡ ys
    left [] = refl
    left (y ∷ ys) = ap (λ zs. y ∷ zs) (left ys)
