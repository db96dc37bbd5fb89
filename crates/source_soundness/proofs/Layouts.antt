-- A field lies within its struct: a struct has the cells of all its fields, by the whole table of sizes.
use Rattle.std.proofs.Common.{◌≡◌, ◌∙◌, ◌≤◌, ◌<◌, ℕ, zero, suc, ◌+◌, ◌*◌, refl, ap, sym, subst, arith, true, false, Option, Some, None, List, [], ◌∷◌, ◌++◌, length}
use Rattle.std.specs.Prelude.{slice_get, get_or, take, nat_le, option_map, option_and_then}
use Rattle.std.specs.List.{list_all}
use Rattle.std.proofs.Math.ListN.{get_or-append}
use Rattle.std.proofs.Math.Seq.{get_or-append_seam}
use Rattle.std.proofs.lemmas.Option.{get_or_from_slice_get}
use Rattle.pt_base.proofs.Booleans.{both_hold_first, both_hold_second, false_not_true}
use Rattle.pt_base.proofs.Lists.{length_pushed_number}
use Rattle.pt_base.proofs.Numbers.{as_zero_plus, nat_lt_below}
use Rattle.pt_tree.specs.declared.signature.Elem.{Elem}
use Rattle.pt_tree.specs.declared.signature.Elem.TheVariants as e
use Rattle.typed_tree.specs.declared.types.VarTy.{VarTy}
use Rattle.typed_tree.specs.declared.types.VarTy.TheVariants.{Int, Struct, Array, Pointer}
use Rattle.typed_tree.specs.declared.types.Field.{Field}
use Rattle.typed_tree.specs.declared.types.StructInfo.{StructInfo}
use Rattle.typed_tree.specs.Sizes.{cells_by, elem_cells, fields_cells, sizes_after, sizes_of, fields_of, offset_of}
use Rattle.typed_tree.specs.WellFormed.{is_plain_type, is_small, field_sound, struct_sound, structs_sound}
use Rattle.typed_tree.specs.WellFormedExpression.{field_type, is_elem}
use Rattle.source_soundness.specs.Worlds.{is_pointer}
use Rattle.source_soundness.specs.Sizes.{object_cells}
use Rattle.source_soundness.proofs.ProgramFacts.{fields_are_plain}

-- what is no pointer has its cells
pub plain_cells : (sizes : List ℕ) (ty : VarTy) → is_pointer ty ≡ false → object_cells sizes ty ≡ cells_by sizes ty
plain_cells sizes (Int t) p = refl
plain_cells sizes (Struct n) p = refl
plain_cells sizes (Array elem count) p = refl
plain_cells sizes (Pointer elem fixed) p = false_not_true (sym p)

-- a field begins behind those before it, and ends no later than all
field_within_all : (sizes : List ℕ) (fs : List Field) (k : ℕ) (x : Field) → slice_get fs k ≡ Some x → fields_cells sizes (take k fs) + cells_by sizes x.ty ≤ fields_cells sizes fs
field_within_all sizes [] k x is = cc
field_within_all sizes (f ∷ fs) zero x is = let e : cells_by sizes f.ty ≡ cells_by sizes x.ty = ap (λ (z : Field). cells_by sizes z.ty) (same is) in omega (arith, e)
  where
    same : Some f ≡ Some x → f ≡ x
    same h = cc
field_within_all sizes (f ∷ fs) (suc k) x is = let rest = field_within_all sizes fs k x is in omega (arith, rest)

-- ---- the table of sizes

-- two tables say the same of the first structs
abbrev SameBelow : ℕ → List ℕ → List ℕ → Type 0
SameBelow earlier a b = (j : ℕ) → j < earlier → get_or a j 0 ≡ get_or b j 0

elem_same : (earlier : ℕ) (a b : List ℕ) (elem : Elem) → is_elem earlier (Some elem) ≡ true → SameBelow earlier a b → elem_cells a elem ≡ elem_cells b elem
elem_same earlier a b (e.Int t) h same = refl
elem_same earlier a b (e.Struct n) h same = same n (nat_lt_below n earlier h)

type_same : (earlier : ℕ) (a b : List ℕ) (ty : VarTy) → is_plain_type earlier ty ≡ true → SameBelow earlier a b → cells_by a ty ≡ cells_by b ty
type_same earlier a b (Int t) h same = refl
type_same earlier a b (Struct n) h same = same n (nat_lt_below n earlier h)
type_same earlier a b (Array elem count) h same = ap (λ k. count * k) (elem_same earlier a b elem (both_hold_first (is_elem earlier (Some elem)) (nat_le 1 count) h) same)
type_same earlier a b (Pointer elem fixed) h same = refl

fields_same : (structs : List StructInfo) (earlier : ℕ) (a b : List ℕ) (fs : List Field) → list_all (field_sound structs earlier) fs ≡ true → SameBelow earlier a b → fields_cells a fs ≡ fields_cells b fs
fields_same structs earlier a b [] h same = refl
fields_same structs earlier a b (f ∷ fs) h same =
    let first = type_same earlier a b f.ty (both_hold_first (is_plain_type earlier f.ty) (is_small structs f.ty) (both_hold_first (field_sound structs earlier f) (list_all (field_sound structs earlier) fs) h)) same in
    let rest = fields_same structs earlier a b fs (both_hold_second (field_sound structs earlier f) (list_all (field_sound structs earlier) fs) h) same in
    ap (λ k. k + fields_cells a fs) first ∙ ap (λ k. cells_by b f.ty + k) rest

-- what the table has said it says at the end
stays : (structs : List StructInfo) (known : List ℕ) (j : ℕ) → j < length known → get_or (sizes_after known structs) j 0 ≡ get_or known j 0
stays [] known j h = refl
stays (s ∷ ss) known j h =
    let long = length_pushed_number known (fields_cells known s.fields) in
    stays ss (known ++ fields_cells known s.fields ∷ []) j (omega (arith, long)) ∙ get_or-append known (fields_cells known s.fields ∷ []) 0 j h

-- a struct has the cells of its fields
entry_is : (structs rest : List StructInfo) (known : List ℕ) (earlier i : ℕ) (s : StructInfo) → length known ≡ earlier → structs_sound structs earlier rest ≡ true → slice_get rest i ≡ Some s →
    get_or (sizes_after known rest) (earlier + i) 0 ≡ fields_cells (sizes_after known rest) s.fields
entry_is structs [] known earlier i s long h is = cc
entry_is structs (x ∷ ss) known earlier zero s long h is =
    subst (λ (z : StructInfo). get_or (sizes_after known (x ∷ ss)) (earlier + 0) 0 ≡ fields_cells (sizes_after known (x ∷ ss)) z.fields) (same is)
    (ap (λ k. get_or (sizes_after known (x ∷ ss)) k 0) place
    ∙ stays ss (known ++ fields_cells known x.fields ∷ []) (length known) (let more = length_pushed_number known (fields_cells known x.fields) in omega (arith, more))
    ∙ get_or-append_seam known (fields_cells known x.fields) [] 0
    ∙ sym (fields_same structs earlier (sizes_after known (x ∷ ss)) known x.fields fields
    (λ j lt. stays (x ∷ ss) known j (omega (arith, long, lt)))))
  where
    same : Some x ≡ Some s → x ≡ s
    same e = cc

    place : earlier + 0 ≡ length known
    place = omega (arith, long)

    fields : list_all (field_sound structs earlier) x.fields ≡ true
    fields = both_hold_second (nat_le 1 (length x.fields)) (list_all (field_sound structs earlier) x.fields) (both_hold_first (struct_sound structs earlier x) (structs_sound structs (suc earlier) ss) h)
entry_is structs (x ∷ ss) known earlier (suc i) s long h is =
    ap (λ k. get_or (sizes_after known (x ∷ ss)) k 0) place
    ∙ entry_is structs ss (known ++ fields_cells known x.fields ∷ []) (suc earlier) i s (length_pushed_number known (fields_cells known x.fields) ∙ ap suc long) (both_hold_second (struct_sound structs earlier x) (structs_sound structs (suc earlier) ss) h) is
  where
    place : earlier + suc i ≡ suc earlier + i
    place = omega arith

-- ---- fields

abbrev no_struct : StructInfo
no_struct = record { name = []; fields = [] }

abbrev fields_in : StructInfo → List Field
fields_in s = s.fields

pub field_within : (structs : List StructInfo) (n k : ℕ) (ty : VarTy) → structs_sound structs 0 structs ≡ true → field_type structs (Some (Struct n)) k ≡ Some ty → offset_of structs n k + object_cells (sizes_of structs) ty ≤ cells_by (sizes_of structs) (Struct n)
field_within structs n k ty sound is = at_struct (slice_get structs n) refl is
  where
    plain : is_pointer ty ≡ false
    plain = fields_are_plain structs sound n k ty is

    at_field : (s : StructInfo) (o : Option Field) → slice_get structs n ≡ Some s → slice_get s.fields k ≡ o → option_map (λ x. x.ty) o ≡ Some ty → offset_of structs n k + object_cells (sizes_of structs) ty ≤ cells_by (sizes_of structs) (Struct n)
    at_field s None e e' is = cc
    at_field s (Some x) e e' is =
        let fs_is : fields_of structs n ≡ s.fields = ap fields_in (get_or_from_slice_get structs n s no_struct e) in
        let offset : offset_of structs n k ≡ fields_cells (sizes_of structs) (take k s.fields) = ap (λ fs. fields_cells (sizes_of structs) (take k fs)) fs_is in
        let all : get_or (sizes_of structs) n 0 ≡ fields_cells (sizes_of structs) s.fields = ap (λ j. get_or (sizes_of structs) j 0) (as_zero_plus n) ∙ entry_is structs structs [] 0 n s refl sound e in
        let ty_is : cells_by (sizes_of structs) x.ty ≡ cells_by (sizes_of structs) ty = ap (cells_by (sizes_of structs)) (same is) in
        let own : object_cells (sizes_of structs) ty ≡ cells_by (sizes_of structs) ty = plain_cells (sizes_of structs) ty plain in
        let lies : fields_cells (sizes_of structs) (take k s.fields) + cells_by (sizes_of structs) x.ty ≤ fields_cells (sizes_of structs) s.fields = field_within_all (sizes_of structs) s.fields k x e' in
        omega (arith, offset, all, ty_is, own, lies)
      where
        same : Some x.ty ≡ Some ty → x.ty ≡ ty
        same h = cc

    at_struct : (o : Option StructInfo) → slice_get structs n ≡ o → option_and_then (λ s. option_map (λ x. x.ty) (slice_get s.fields k)) o ≡ Some ty → offset_of structs n k + object_cells (sizes_of structs) ty ≤ cells_by (sizes_of structs) (Struct n)
    at_struct None e is = cc
    at_struct (Some s) e is = at_field s (slice_get s.fields k) e refl is
