-- By the cells of each struct it is known which elements have marked fields.
use Rattle.std.proofs.Common.{◌≡◌, ◌∙◌, ℕ, zero, suc, refl, ap, sym, arith, append_assoc, Bool, true, false, List, [], ◌∷◌, ◌++◌, get_or, map, nat_eq}
use Rattle.std.specs.Prelude.{◌||◌, if◌then◌else◌, slice_get, unwrap_or}
use Rattle.std.specs.List.{flat_map, list_any}
use Rattle.std.proofs.lemmas.Bool.Decides.{nat_tests}
use Rattle.std.proofs.lemmas.List.{append-nil, map-append}
use Rattle.std.proofs.lemmas.List.Folds.{list_any-append}
use Rattle.pt_base.proofs.Booleans.{or_with_false}
use Rattle.pt_tree.specs.declared.signature.Elem.{Elem}
use Rattle.pt_tree.specs.declared.signature.Elem.TheVariants as e
use Rattle.typed_tree.specs.declared.types.Field.{Field}
use Rattle.typed_tree.specs.declared.types.StructInfo.{StructInfo}
use Rattle.typed_tree.specs.declared.types.VarTy.{VarTy}
use Rattle.typed_tree.specs.declared.types.VarTy.TheVariants.{Int, Struct, Array, Pointer}
use Rattle.typed_tree.specs.Cells.{repeated}
use Rattle.marshalling.specs.declared.leaf.Leaf.{Leaf}
use Rattle.marshalling.specs.Leaves.{element_leaves, field_leaves, leaves_from, leaves_of, object_leaves, under}
use Rattle.outlining.specs.declared.struct_cells.Cells.{Cells}
use Rattle.outlining.specs.EntryTexts.{has_marked_field}
use Rattle.outlining.specs.StructCells.{array_cells, both, cells_after, cells_of, elem_cells, field_cells, fields_after, is_marked_in, no_cells, object_cells, under_mark}

-- ---- what is known of leaves

abbrev seen : List Leaf → Cells
seen leaves = record { some = list_any (λ (leaf : Leaf). true) leaves; marked = list_any (λ (leaf : Leaf). leaf.marked) leaves }

seen_append : (xs ys : List Leaf) → seen (xs ++ ys) ≡ both (seen xs) (seen ys)
seen_append xs ys = λ i. record { some = list_any-append (λ (leaf : Leaf). true) xs ys i; marked = list_any-append (λ (leaf : Leaf). leaf.marked) xs ys i }

-- ---- under a mark

some_under : (m : Bool) (xs : List Leaf) → list_any (λ (leaf : Leaf). true) (map (under m) xs) ≡ list_any (λ (leaf : Leaf). true) xs
some_under m [] = refl
some_under m (x ∷ xs) = refl

all_under : (xs : List Leaf) → list_any (λ (leaf : Leaf). leaf.marked) (map (under true) xs) ≡ (list_any (λ (leaf : Leaf). true) xs || list_any (λ (leaf : Leaf). leaf.marked) xs)
all_under [] = refl
all_under (x ∷ xs) = refl

none_under : (xs : List Leaf) → list_any (λ (leaf : Leaf). leaf.marked) (map (under false) xs) ≡ list_any (λ (leaf : Leaf). leaf.marked) xs
none_under [] = refl
none_under (x ∷ xs) = ap (λ b. x.marked || b) (none_under xs)

seen_under : (m : Bool) (xs : List Leaf) → seen (map (under m) xs) ≡ under_mark m (seen xs)
seen_under true xs = λ i. record { some = some_under true xs i; marked = all_under xs i }
seen_under false xs = λ i. record { some = some_under false xs i; marked = none_under xs i }

-- ---- so many elements

or_same : (a : Bool) → (a || a) ≡ a
or_same true = refl
or_same false = refl

both_none : (c : Cells) → both c no_cells ≡ c
both_none c = λ i. record { some = or_with_false c.some i; marked = or_with_false c.marked i }

both_same : (c : Cells) → both c c ≡ c
both_same c = λ i. record { some = or_same c.some i; marked = or_same c.marked i }

both_if : (b : Bool) (c : Cells) → both c (if b then no_cells else c) ≡ c
both_if true c = both_none c
both_if false c = both_same c

no_nought : (n : ℕ) → nat_eq (suc n) 0 ≡ false
no_nought n = grind (arith, nat_tests)

more : (n : ℕ) (c : Cells) → c ≡ array_cells (suc n) c
more n c = sym (ap (λ (b : Bool). if b then no_cells else c) (no_nought n))

seen_repeated : (n : ℕ) (xs : List Leaf) → seen (repeated n xs) ≡ array_cells n (seen xs)
seen_repeated zero xs = refl
seen_repeated (suc n) xs =
    seen_append xs (repeated n xs) ∙ ap (both (seen xs)) (seen_repeated n xs) ∙ both_if (nat_eq n 0) (seen xs) ∙ more n (seen xs)

-- ---- structs

struct_is : (known : List (List Leaf)) (n : ℕ) → seen (unwrap_or (slice_get known n) []) ≡ get_or (map seen known) n no_cells
struct_is [] n = refl
struct_is (ls ∷ known) zero = refl
struct_is (ls ∷ known) (suc n) = struct_is known n

elem_is : (known : List (List Leaf)) (elem : Elem) → seen (element_leaves known elem) ≡ elem_cells (map seen known) elem
elem_is known (e.Int t) = refl
elem_is known (e.Struct n) = struct_is known n

object_is : (known : List (List Leaf)) (ty : VarTy) → seen (object_leaves known ty) ≡ object_cells (map seen known) ty
object_is known (Int t) = refl
object_is known (Struct n) = struct_is known n
object_is known (Array elem count) = seen_repeated count (element_leaves known elem) ∙ ap (array_cells count) (elem_is known elem)
object_is known (Pointer elem fixed) = refl

field_is : (known : List (List Leaf)) (f : Field) → seen (field_leaves known f) ≡ field_cells (map seen known) f
field_is known f = seen_under f.marked (object_leaves known f.ty) ∙ ap (under_mark f.marked) (object_is known f.ty)

-- behind these leaves
fields_are : (known : List (List Leaf)) (before : List Leaf) (fs : List Field) → fields_after (map seen known) (seen before) fs ≡ seen (before ++ flat_map (field_leaves known) fs)
fields_are known before [] = sym (ap seen (append-nil before))
fields_are known before (f ∷ fs) =
    ap (λ (c : Cells). fields_after (map seen known) c fs) (sym (ap (both (seen before)) (field_is known f)) ∙ sym (seen_append before (field_leaves known f)))
    ∙ fields_are known (before ++ field_leaves known f) fs
    ∙ ap seen (append_assoc before (field_leaves known f) (flat_map (field_leaves known) fs))

cells_are : (known : List (List Leaf)) (ss : List StructInfo) → cells_after (map seen known) ss ≡ map seen (leaves_from known ss)
cells_are known [] = refl
cells_are known (s ∷ ss) =
    ap (λ (xs : List Cells). cells_after xs ss) (ap (λ (c : Cells). map seen known ++ c ∷ []) (fields_are known [] s.fields) ∙ sym (map-append seen known (flat_map (field_leaves known) s.fields ∷ [])))
    ∙ cells_are (known ++ flat_map (field_leaves known) s.fields ∷ []) ss

-- ---- marked fields

marked_is : (structs : List StructInfo) (elem : Elem) → is_marked_in (cells_of structs) elem ≡ has_marked_field structs elem
unfolding leaves_of
marked_is structs elem =
    ap (λ (known : List Cells). is_marked_in known elem) (cells_are [] structs) ∙ ap (λ (c : Cells). c.marked) (sym (elem_is (leaves_from [] structs) elem))

pub marked_alike : (structs : List StructInfo) (known : List Cells) → known ≡ cells_of structs → is_marked_in known ≡ has_marked_field structs
marked_alike structs known is = ap is_marked_in is ∙ (λ i elem. marked_is structs elem i)
