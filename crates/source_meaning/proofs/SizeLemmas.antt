-- The sizes of objects by the table of structs are the numbers of their leaves.
use Rattle.std.proofs.Math.Nat.{suc-mul, zero-mul}
use Rattle.std.proofs.Common.{length-append, ◌≡◌, ℕ, zero, suc, ◌+◌, ◌*◌, List, [], ◌∷◌, ◌++◌, length, map, get_or, slice_get, unwrap_or, refl, sym, ap, ◌∙◌, arith}
use Rattle.std.specs.List.{flat_map}
use Rattle.pt_base.specs.declared.int_type.IntType.{IntType}
use Rattle.pt_tree.specs.declared.signature.Elem.{Elem}
use Rattle.pt_tree.specs.declared.signature.Elem.TheVariants as e
use Rattle.typed_tree.specs.declared.types.VarTy.{VarTy}
use Rattle.typed_tree.specs.declared.types.VarTy.TheVariants.{Int, Struct, Array, Pointer}
use Rattle.typed_tree.specs.declared.types.Field.{Field}
use Rattle.typed_tree.specs.declared.types.StructInfo.{StructInfo}
use Rattle.typed_tree.specs.Cells.{repeated, element_leaves, object_leaves, struct_leaves, leaves_from, leaves_of, cells_of}
use Rattle.typed_tree.specs.Sizes.{elem_cells, cells_by, fields_cells, sizes_after, sizes_of}

map_append : (xs ys : List (List IntType)) → map length (xs ++ ys) ≡ map length xs ++ map length ys
map_append [] ys = refl
map_append (x ∷ xs) ys = ap (λ r. length x ∷ r) (map_append xs ys)

known_size : (known : List (List IntType)) (n : ℕ) → get_or (map length known) n 0 ≡ length (unwrap_or (slice_get known n) [])
known_size [] n = refl
known_size (x ∷ xs) zero = refl
known_size (x ∷ xs) (suc n) = known_size xs n

element_size : (known : List (List IntType)) (a : Elem) → elem_cells (map length known) a ≡ length (element_leaves known a)
element_size known (e.Int t) = refl
element_size known (e.Struct n) = known_size known n

pub repeated_size : (n : ℕ) (xs : List IntType) → length (repeated n xs) ≡ n * length xs
repeated_size zero xs = let e : 0 * length xs ≡ 0 = zero-mul (length xs) in sym e
repeated_size (suc n) xs =
    let here = length-append xs (repeated n xs) in
    let rest = repeated_size n xs in
    let product = suc-mul n (length xs) in
    omega (arith, here, rest, product)

object_size : (known : List (List IntType)) (ty : VarTy) → cells_by (map length known) ty ≡ length (object_leaves known ty)
object_size known (Int t) = refl
object_size known (Struct n) = known_size known n
object_size known (Array a count) = ap (λ k. count * k) (element_size known a) ∙ sym (repeated_size count (element_leaves known a))
object_size known (Pointer a fixed) = refl

fields_size : (known : List (List IntType)) (fs : List Field) → fields_cells (map length known) fs ≡ length (flat_map (λ f. object_leaves known f.ty) fs)
fields_size known [] = refl
fields_size known (f ∷ fs) =
    ap (λ k. k + fields_cells (map length known) fs) (object_size known f.ty)
    ∙ ap (λ k. length (object_leaves known f.ty) + k) (fields_size known fs)
    ∙ sym (length-append (object_leaves known f.ty) (flat_map (λ g. object_leaves known g.ty) fs))

sizes_after_leaves : (known : List (List IntType)) (structs : List StructInfo) → sizes_after (map length known) structs ≡ map length (leaves_from known structs)
sizes_after_leaves known [] = refl
sizes_after_leaves known (s ∷ ss) =
    let one : map length known ++ fields_cells (map length known) s.fields ∷ [] ≡ map length (known ++ struct_leaves known s ∷ []) =
    ap (λ k. map length known ++ k ∷ []) (fields_size known s.fields) ∙ sym (map_append known (struct_leaves known s ∷ [])) in
    ap (λ xs. sizes_after xs ss) one ∙ sizes_after_leaves (known ++ struct_leaves known s ∷ []) ss

pub sizes : (structs : List StructInfo) (ty : VarTy) → cells_by (sizes_of structs) ty ≡ cells_of structs ty
unfolding leaves_of
sizes structs ty = ap (λ xs. cells_by xs ty) (sizes_after_leaves [] structs) ∙ object_size (leaves_from [] structs) ty
