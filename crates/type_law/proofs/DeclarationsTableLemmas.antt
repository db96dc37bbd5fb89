-- What a sound table says of each of its structs, and of tables that grow.
use Rattle.std.proofs.Common.{◌≡◌, ◌≤◌, ◌<◌, ◌+◌, ◌*◌, ◌++◌, ◌∙◌, sym, ap, subst, refl, ℕ, zero, suc, Bool, List, [], ◌∷◌, length, arith, Some}
use Rattle.std.specs.Prelude.{IsTrue, ◌&&◌, nat_le, slice_get, option_map, sum_by}
use Rattle.std.specs.Option.{option_map_or}
use Rattle.std.specs.List.{list_all}
use Rattle.std.proofs.lemmas.Bool.Decides.{nat_tests}
use Rattle.std.proofs.lemmas.List.{append_assoc, append-nil, length-append}
use Rattle.std.proofs.lemmas.List.Sums.{sum_by-cons}
use Rattle.pt_base.proofs.Booleans.{both_hold, both_hold_first, both_hold_second}
use Rattle.pt_base.proofs.Places.{get_before}
use Rattle.pt_tree.specs.declared.signature.Elem.{Elem}
use Rattle.pt_tree.specs.declared.signature.Elem.TheVariants as elem
use Rattle.type_rules.specs.declared.types.Type.{«Type»}
use Rattle.type_rules.specs.declared.types.Type.TheVariants.{Bad, Void, Int, Struct, Array, Pointer}
use Rattle.typed_tree.specs.WellFormedExpression.{is_elem}
use Rattle.check_declarations.specs.declared.structs.FieldEntry.{FieldEntry}
use Rattle.check_declarations.specs.declared.structs.StructEntry.{StructEntry}
use Rattle.check_declarations.specs.Cells.{counted, cells_of, cells_of_elem, cells_in, object_limit}
use Rattle.check_declarations.specs.NameTables.{Named, value_at, values}
use Rattle.check_declarations.specs.Structs.{Structs}
use Rattle.type_law.specs.DeclarationsTypes.{is_plain}
use Rattle.type_law.specs.DeclarationsSound.{field_sound, SoundStruct, SoundFrom, SoundStructs}

-- ---- tables that grow

-- a value keeps its number
pub value_before : {X : Type 0} (table more : Named X) (n : ℕ) → n < length table → value_at (table ++ more) n ≡ value_at table n
value_before table more n h = ap (option_map (λ e. e.1)) (get_before table more n h)

pub elem_cells_before : (structs more : Structs) (e : Elem) → IsTrue (is_elem (length structs) (Some e)) → cells_of_elem (structs ++ more) e ≡ cells_of_elem structs e
elem_cells_before structs more (elem.Int t) h = refl
elem_cells_before structs more (elem.Struct n) h = ap (λ o. option_map_or (λ s. s.cells) o 0) (value_before structs more n (grind (arith, nat_tests, h)))

-- what names the structs of a table alone has the same cells in a longer one
pub cells_before : (structs more : Structs) (t : «Type») → IsTrue (is_plain (length structs) t) → cells_of (structs ++ more) t ≡ cells_of structs t
cells_before structs more Bad h = refl
cells_before structs more Void h = refl
cells_before structs more (Int t) h = refl
cells_before structs more (Struct n) h = elem_cells_before structs more (elem.Struct n) h
cells_before structs more (Array e count) h = ap (λ c. counted (count * c)) (elem_cells_before structs more e (both_hold_first (is_elem (length structs) (Some e)) (nat_le 1 count) h))
cells_before structs more (Pointer e fixed) h = refl

-- ---- structs by number

-- a field among all structs, of which so many may be named
abbrev pub field_at : Structs → ℕ → FieldEntry → Bool
field_at all n f = is_plain n f.ty && nat_le (cells_of all f.ty) object_limit

-- the struct with this number has a field, its fields name structs before it alone, and its cells are counted
pub record SoundAt (all : Structs) (n : ℕ) (s : StructEntry) : Type 0 where
  pub some : 1 ≤ length s.fields
  pub fields : IsTrue (list_all (field_at all n) (values s.fields))
  pub cells : s.cells ≡ cells_in all s.fields

pub field_before : (structs more : Structs) (f : FieldEntry) → IsTrue (field_sound structs f) → IsTrue (field_at (structs ++ more) (length structs) f)
field_before structs more f h =
    let plain = both_hold_first (is_plain (length structs) f.ty) (nat_le (cells_of structs f.ty) object_limit) h in
    let small = both_hold_second (is_plain (length structs) f.ty) (nat_le (cells_of structs f.ty) object_limit) h in
    both_hold _ _ plain (subst (λ c. IsTrue (nat_le c object_limit)) (sym (cells_before structs more f.ty plain)) small)

pub fields_before : (structs more : Structs) (fs : List FieldEntry) → IsTrue (list_all (field_sound structs) fs) → IsTrue (list_all (field_at (structs ++ more) (length structs)) fs)
fields_before structs more [] h = refl
fields_before structs more (f ∷ fs) h =
    both_hold _ _ (field_before structs more f (both_hold_first (field_sound structs f) (list_all (field_sound structs) fs) h))
    (fields_before structs more fs (both_hold_second (field_sound structs f) (list_all (field_sound structs) fs) h))

sums_before : (structs more : Structs) (fs : List FieldEntry) → IsTrue (list_all (field_sound structs) fs)
    → sum_by (λ f. cells_of (structs ++ more) f.ty) fs ≡ sum_by (λ f. cells_of structs f.ty) fs
sums_before structs more [] h = refl
sums_before structs more (f ∷ fs) h =
    let here = both_hold_first (field_sound structs f) (list_all (field_sound structs) fs) h in
    let plain = both_hold_first (is_plain (length structs) f.ty) (nat_le (cells_of structs f.ty) object_limit) here in
    let rest = sums_before structs more fs (both_hold_second (field_sound structs f) (list_all (field_sound structs) fs) h) in
    let one = cells_before structs more f.ty plain in
    let left = sum_by-cons (λ g. cells_of (structs ++ more) g.ty) f fs in
    let right = sum_by-cons (λ g. cells_of structs g.ty) f fs in
    left ∙ ap (λ n. n + sum_by (λ g. cells_of (structs ++ more) g.ty) fs) one ∙ ap (λ n. cells_of structs f.ty + n) rest ∙ sym right

here_sound : (before rest : Structs) (s : StructEntry) → SoundStruct before s → SoundAt (before ++ rest) (length before) s
here_sound before rest s h = record {
  some = h.some;
  fields = fields_before before rest (values s.fields) h.fields;
  cells = h.cells ∙ ap counted (sym (sums_before before rest (values s.fields) h.fields));
}

pub sound_from : (before rest : Structs) (i n : ℕ) (s : List ℕ × StructEntry) → n ≡ length before + i → SoundFrom before rest → slice_get rest i ≡ Some s → SoundAt (before ++ rest) n s.1
sound_from before [] i n s is h e = grind (arith, e)
sound_from before (s' ∷ rest) zero n s is h e =
    let one : s' ≡ s = grind (arith, e) in
    let at : length before ≡ n = omega (arith, is) in
    subst (λ x. SoundAt (before ++ s' ∷ rest) n x.1) one
    (subst (λ k. SoundAt (before ++ s' ∷ rest) k s'.1) at (here_sound before (s' ∷ rest) s'.1 h.0))
sound_from before (s' ∷ rest) (suc i) n s is h e =
    let more : length (before ++ s' ∷ []) ≡ length before + 1 = length-append before (s' ∷ []) in
    subst (λ all. SoundAt all n s.1) (append_assoc before (s' ∷ []) rest)
    (sound_from (before ++ s' ∷ []) rest i n s (omega (arith, is, more)) h.1 e)

-- what a sound table says of the struct with a number
pub sound_at : (all : Structs) (n : ℕ) (s : List ℕ × StructEntry) → SoundStructs all → slice_get all n ≡ Some s → SoundAt all n s.1
sound_at all n s h e = sound_from [] all n n s (omega arith) h e

-- ---- parts of tables

sound_prefix_from : (before structs more : Structs) → SoundFrom before (structs ++ more) → SoundFrom before structs
sound_prefix_from before [] more h = tt
sound_prefix_from before (s ∷ structs) more h = (h.0, sound_prefix_from (before ++ s ∷ []) structs more h.1)

-- the first structs of a sound table are a sound table
pub sound_prefix : (structs more : Structs) → SoundStructs (structs ++ more) → SoundStructs structs
sound_prefix structs more h = sound_prefix_from [] structs more h

sound_push_from : (before structs : Structs) (s : List ℕ × StructEntry) → SoundFrom before structs → SoundStruct (before ++ structs) s.1 → SoundFrom before (structs ++ s ∷ [])
sound_push_from before [] s h k = (subst (λ b. SoundStruct b s.1) (append-nil before) k, tt)
sound_push_from before (s' ∷ structs) s h k =
    (h.0, sound_push_from (before ++ s' ∷ []) structs s h.1 (subst (λ b. SoundStruct b s.1) (sym (append_assoc before (s' ∷ []) structs)) k))

-- a sound table stays sound with a sound struct behind it
pub sound_push : (structs : Structs) (s : List ℕ × StructEntry) → SoundStructs structs → SoundStruct structs s.1 → SoundStructs (structs ++ s ∷ [])
sound_push structs s h k = sound_push_from [] structs s h k
