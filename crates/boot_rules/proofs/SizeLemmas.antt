-- What is kept of sizes is how many integers objects have.
use Rattle.std.proofs.Common.{◌≡◌, ◌+◌, ◌*◌, ◌∙◌, ◌++◌, sym, ap, refl, ℕ, zero, suc, List, [], ◌∷◌, length, length-append, arith}
use Rattle.std.specs.Prelude.{nat_le, slice_get, sum_by, unwrap_or}
use Rattle.std.specs.List.{flat_map}
use Rattle.std.proofs.lemmas.Bool.Decides.{nat_tests}
use Rattle.std.proofs.lemmas.List.Sums.{sum_by-cons}
use Rattle.std.proofs.Math.Nat.{suc-mul}
use Rattle.pt_base.specs.declared.int_type.IntType.{IntType}
use Rattle.pt_tree.specs.declared.signature.Elem.TheVariants as e
use Rattle.typed_tree.specs.declared.types.VarTy.{VarTy}
use Rattle.typed_tree.specs.declared.types.VarTy.TheVariants.{Int, Struct, Array, Pointer}
use Rattle.typed_tree.specs.declared.types.Field.{Field}
use Rattle.typed_tree.specs.declared.types.StructInfo.{StructInfo}
use Rattle.typed_tree.specs.Cells.{repeated, object_leaves, struct_leaves, leaves_from, leaves_of, cells_of}
use Rattle.typed_tree.specs.WellFormed.{is_small}
use Rattle.boot_rules.specs.declared.shape.Shape.{Shape}
use Rattle.boot_rules.specs.Shapes.{counted, shape_at, object_cells, fields_cells, is_small_by, shape_of, shapes_from}

-- ---- counting

counted_sum : (a b c d : ℕ) → a ≡ counted c → counted b ≡ counted d → counted (a + b) ≡ counted (c + d)
counted_sum a b c d h i = omega (arith, h, i)

counted_times : (k n : ℕ) → counted (k * counted n) ≡ counted (k * n)
counted_times zero n = omega arith
counted_times (suc k) n =
    let small : suc k * counted n ≡ k * counted n + counted n = suc-mul k (counted n) in
    let large : suc k * n ≡ k * n + n = suc-mul k n in
    let same : counted (k * counted n) ≡ counted (k * n) = counted_times k n in
    omega (arith, small, large, same)

within : (n : ℕ) → nat_le (counted n) 65_536 ≡ nat_le n 65_536
within n = grind (arith, nat_tests)

length_repeated : {A : Type 0} (n : ℕ) (xs : List A) → length (repeated n xs) ≡ n * length xs
length_repeated zero xs = omega arith
length_repeated (suc n) xs =
    let more : suc n * length xs ≡ n * length xs + length xs = suc-mul n (length xs) in
    let joined : length (xs ++ repeated n xs) ≡ length xs + length (repeated n xs) = length-append xs (repeated n xs) in
    let rest : length (repeated n xs) ≡ n * length xs = length_repeated n xs in
    omega (arith, more, joined, rest)

-- ---- shapes and leaves, struct by struct

abbrev AreSized : List (List IntType) → List Shape → Type 0
AreSized [] [] = Unit {0}
AreSized [] (s ∷ shapes) = ⊥
AreSized (ts ∷ known) [] = ⊥
AreSized (ts ∷ known) (s ∷ shapes) = (s.cells ≡ counted (length ts)) × AreSized known shapes

sized_more : (known : List (List IntType)) (shapes : List Shape) (ts : List IntType) (s : Shape) → AreSized known shapes → s.cells ≡ counted (length ts) → AreSized (known ++ ts ∷ []) (shapes ++ s ∷ [])
sized_more [] [] ts s h is = (is, tt)
sized_more [] (x ∷ shapes) ts s h is = absurd h
sized_more (xs ∷ known) [] ts s h is = absurd h
sized_more (xs ∷ known) (x ∷ shapes) ts s h is = (h.0, sized_more known shapes ts s h.1 is)

sized_at : (known : List (List IntType)) (shapes : List Shape) (n : ℕ) → AreSized known shapes → (shape_at shapes n).cells ≡ counted (length (unwrap_or (slice_get known n) []))
sized_at [] [] n h = refl
sized_at [] (s ∷ shapes) n h = absurd h
sized_at (ts ∷ known) [] n h = absurd h
sized_at (ts ∷ known) (s ∷ shapes) zero h = h.0
sized_at (ts ∷ known) (s ∷ shapes) (suc n) h = sized_at known shapes n h.1

object_sized : (known : List (List IntType)) (shapes : List Shape) (ty : VarTy) → AreSized known shapes → object_cells shapes ty ≡ counted (length (object_leaves known ty))
object_sized known shapes (Int t) h = refl
object_sized known shapes (Struct n) h = sized_at known shapes n h
object_sized known shapes (Array (e.Int t) count) h = ap counted (sym (length_repeated count (t ∷ [])))
object_sized known shapes (Array (e.Struct n) count) h =
    ap (λ k. counted (count * k)) (sized_at known shapes n h)
    ∙ counted_times count (length (unwrap_or (slice_get known n) []))
    ∙ ap counted (sym (length_repeated count (unwrap_or (slice_get known n) [])))
object_sized known shapes (Pointer elem fixed) h = refl

fields_sized : (known : List (List IntType)) (shapes : List Shape) (fields : List Field) → AreSized known shapes → fields_cells shapes fields ≡ counted (length (flat_map (λ f. object_leaves known f.ty) fields))
fields_sized known shapes [] h = refl
fields_sized known shapes (f ∷ fields) h =
    ap counted (sum_by-cons (λ (x : Field). object_cells shapes x.ty) f fields)
    ∙ counted_sum (object_cells shapes f.ty) (sum_by (λ (x : Field). object_cells shapes x.ty) fields) (length (object_leaves known f.ty)) (length (flat_map (λ (x : Field). object_leaves known x.ty) fields))
    (object_sized known shapes f.ty h) (fields_sized known shapes fields h)
    ∙ ap counted (sym (length-append (object_leaves known f.ty) (flat_map (λ (x : Field). object_leaves known x.ty) fields)))

all_sized : (known : List (List IntType)) (shapes : List Shape) (structs : List StructInfo) → AreSized known shapes → AreSized (leaves_from known structs) (shapes_from shapes structs)
all_sized known shapes [] h = h
all_sized known shapes (s ∷ structs) h =
    all_sized (known ++ struct_leaves known s ∷ []) (shapes ++ shape_of shapes s.fields ∷ []) structs
    (sized_more known shapes (struct_leaves known s) (shape_of shapes s.fields) h (fields_sized known shapes s.fields h))

-- the shapes count an object's integers
cells_counted : (structs : List StructInfo) (ty : VarTy) → object_cells (shapes_from [] structs) ty ≡ counted (cells_of structs ty)
unfolding leaves_of
cells_counted structs ty = object_sized (leaves_from [] structs) (shapes_from [] structs) ty (all_sized [] [] structs tt)

-- an object is small by its shape where it is
pub small_by : (structs : List StructInfo) (ty : VarTy) → is_small_by (shapes_from [] structs) ty ≡ is_small structs ty
small_by structs ty = ap (λ n. nat_le n 65_536) (cells_counted structs ty) ∙ within (cells_of structs ty)
