-- A global's starting values have an integer each in the table of a half's structs.
use Rattle.std.proofs.Common.{◌≡◌, ◌++◌, ◌∙◌, ◌<◌, ◌+◌, sym, ap, refl, subst, ℕ, zero, suc, ℤ, true, List, [], ◌∷◌, length, map, Some, arith}
use Rattle.std.specs.Prelude.{slice_get}
use Rattle.std.specs.List.{flat_map}
use Rattle.pt_base.specs.declared.int_type.IntType.{IntType}
use Rattle.pt_base.proofs.Booleans.{and_parts}
use Rattle.pt_base.proofs.Lists.{append_nil}
use Rattle.pt_int.specs.Conversion.{is_in_range}
use Rattle.type_rules.specs.declared.types.Type.TheVariants as ty
use Rattle.typed_tree.specs.declared.types.Field.{Field}
use Rattle.typed_tree.specs.declared.types.StructInfo.{StructInfo}
use Rattle.typed_tree.specs.declared.types.VarTy.{VarTy}
use Rattle.typed_tree.specs.Cells as typed
use Rattle.typed_tree.specs.Sizes.{fields_of}
use Rattle.typed_tree.specs.WellFormed.{is_plain_type, cells_fit}
use Rattle.check_declarations.specs.declared.structs.StructEntry.{StructEntry}
use Rattle.check_declarations.specs.Structs.{Structs}
use Rattle.check_expressions.specs.StructInfos.{field_info, infos_of}
use Rattle.check_statements.specs.Leaves.{leaves_of}
use Rattle.type_law.specs.DeclarationsTypes.{is_plain}
use Rattle.type_law.specs.DeclarationsSound.{SoundStructs}
use Rattle.check_declarations.specs.Cells.{cells_of}
use Rattle.type_law.proofs.DeclarationsSizeLemmas.{sizes_are_sound}
use Rattle.type_law.proofs.DeclarationsLeavesLemmas.{leaves_are_sound}
use Rattle.half_trees.specs.Names.{nowhere}
use Rattle.half_meaning_law.specs.Known.{type_as}
use Rattle.half_names_law.proofs.Tables.{listed}
use Rattle.half_names_law.proofs.Objects.{object_type_is, Fits, sized}
use Rattle.half_names_law.proofs.Structs.{entry_of, fields_as}
use Rattle.half_names_law.proofs.Table.{IsTable, plain_as}
use Rattle.half_names_law.proofs.Globals.{HasCells, HasNumbers}

-- ---- leaves don't ask for names

field_leaves : (known : List (List IntType)) (all : List Field) (k : ℕ) (fs : List Field) → flat_map (λ f. typed.object_leaves known f.ty) (map field_info (listed (entry_of all) k fs)) ≡ flat_map (λ f. typed.object_leaves known f.ty) fs
field_leaves known all k [] = refl
field_leaves known all k (f ∷ fs) = λ i. typed.object_leaves known (object_type_is f.ty i) ++ field_leaves known all (suc k) fs i

-- each entry of the table has the fields of the struct at its place
abbrev pub SameFields : Structs → List StructInfo → Type 0
SameFields [] [] = Unit {0}
SameFields [] (s ∷ ss) = ⊥
SameFields (x ∷ xs) [] = ⊥
SameFields (x ∷ xs) (s ∷ ss) = (x.1.fields ≡ fields_as s.fields) × SameFields xs ss

same_leaves : (known : List (List IntType)) (xs : Structs) (ss : List StructInfo) → SameFields xs ss → typed.leaves_from known (infos_of xs) ≡ typed.leaves_from known ss
same_leaves known [] [] h = refl
same_leaves known [] (s ∷ ss) h = absurd h
same_leaves known (x ∷ xs) [] h = absurd h
same_leaves known (x ∷ xs) (s ∷ ss) h =
    ap (λ leaves. typed.leaves_from (known ++ leaves ∷ []) (infos_of xs)) (ap (λ fs. flat_map (λ f. typed.object_leaves known f.ty) (map field_info fs)) h.0 ∙ field_leaves known s.fields 0 s.fields)
    ∙ same_leaves (known ++ typed.struct_leaves known s ∷ []) xs ss h.1

pub same_fields : (xs : Structs) (ss : List StructInfo) → length xs ≡ length ss → ((j : ℕ) (x : List ℕ × StructEntry) → slice_get xs j ≡ Some x → x.1.fields ≡ fields_as (fields_of ss j)) → SameFields xs ss
same_fields [] [] long each = tt {0}
same_fields [] (s ∷ ss) long each = absurd (omega (arith, long))
same_fields (x ∷ xs) [] long each = absurd (omega (arith, long))
same_fields (x ∷ xs) (s ∷ ss) long each = (each 0 x refl, same_fields xs ss (omega (arith, long)) (λ j y there. each (suc j) y there))

pub leaves_stay : (structs : Structs) (infos : List StructInfo) (u : VarTy) → IsTable structs infos (length infos) → typed.leaves_of (infos_of structs) u ≡ typed.leaves_of infos u
unfolding typed.leaves_of
leaves_stay structs infos u table = ap (λ known. typed.object_leaves known u) (same_leaves [] structs infos (same_fields structs infos table.long (λ j x there. (table.entries j x there).fields)))

-- ---- cells

fit_length : (ts : List IntType) (vs : List ℤ) → cells_fit ts vs ≡ true → length vs ≡ length ts
fit_length [] [] h = refl
fit_length [] (v ∷ vs) h = cc
fit_length (t ∷ ts) [] h = cc
fit_length (t ∷ ts) (v ∷ vs) h = ap suc (fit_length ts vs (and_parts (is_in_range t v) (cells_fit ts vs) h).1)

mapped_at : (ts : List IntType) (j : ℕ) → j < length ts → (t : IntType) × (slice_get (map ty.Int ts) j ≡ Some (ty.Int t))
mapped_at [] j h = absurd (omega (arith, h))
mapped_at (t ∷ ts) zero h = (t, refl)
mapped_at (t ∷ ts) (suc j) h = mapped_at ts j (omega (arith, h))

table_leaves : (structs : Structs) (infos : List StructInfo) (u : VarTy) → IsTable structs infos (length infos) → Fits structs infos u → is_plain_type (length infos) u ≡ true → leaves_of structs (type_as u) ≡ map ty.Int (typed.leaves_of infos u)
table_leaves structs infos u table fits plain =
    leaves_are_sound structs [] (type_as u) nowhere (subst SoundStructs (sym (append_nil structs)) table.sound) (subst (λ n. is_plain n (type_as u) ≡ true) (sym table.long) (plain_as (length infos) u plain)) (sized structs (type_as u) u refl fits.small)
    ∙ (λ i. map ty.Int (typed.leaves_of (infos_of (append_nil structs i)) (object_type_is u i)))
    ∙ ap (map ty.Int) (leaves_stay structs infos u table)

pub cells_there : (structs : Structs) (infos : List StructInfo) (u : VarTy) (cells : List ℤ) → IsTable structs infos (length infos) → Fits structs infos u → is_plain_type (length infos) u ≡ true → cells_fit (typed.leaves_of infos u) cells ≡ true
    → HasCells (leaves_of structs (type_as u)) 0 (length cells)
cells_there structs infos u cells table fits plain fit j low =
    let long = fit_length (typed.leaves_of infos u) cells fit in
    let there = mapped_at (typed.leaves_of infos u) j (omega (arith, low, long)) in
    let same : 0 + j ≡ j = omega arith in
    (there.0, ap (slice_get (leaves_of structs (type_as u))) same ∙ ap (λ ts. slice_get ts j) (table_leaves structs infos u table fits plain) ∙ there.1)

pub cells_exact : (ts : List IntType) (vs : List ℤ) → cells_fit ts vs ≡ true → length vs ≡ length ts
cells_exact = fit_length

numbers_in : (ts : List IntType) (cells : List ℤ) → cells_fit ts cells ≡ true → (j : ℕ) (v : ℤ) → slice_get cells j ≡ Some v → (t : IntType) × (slice_get (map ty.Int ts) j ≡ Some (ty.Int t)) × (is_in_range t v ≡ true)
numbers_in [] [] h j v e = cc
numbers_in [] (w ∷ ws) h j v e = cc
numbers_in (t ∷ ts) [] h j v e = cc
numbers_in (t ∷ ts) (w ∷ ws) h zero v e = (t, refl, ap (is_in_range t) (sym (same e)) ∙ (and_parts (is_in_range t w) (cells_fit ts ws) h).0)
  where
    same : Some w ≡ Some v → w ≡ v
    same e = cc
numbers_in (t ∷ ts) (w ∷ ws) h (suc j) v e = numbers_in ts ws (and_parts (is_in_range t w) (cells_fit ts ws) h).1 j v e

pub numbers_there : (structs : Structs) (infos : List StructInfo) (u : VarTy) (cells : List ℤ) → IsTable structs infos (length infos) → Fits structs infos u → is_plain_type (length infos) u ≡ true → cells_fit (typed.leaves_of infos u) cells ≡ true
    → HasNumbers (leaves_of structs (type_as u)) 0 cells
numbers_there structs infos u cells table fits plain fit j v e =
    let there = numbers_in (typed.leaves_of infos u) cells fit j v e in
    let same : 0 + j ≡ j = omega arith in
    (there.0, ap (slice_get (leaves_of structs (type_as u))) same ∙ ap (λ ts. slice_get ts j) (table_leaves structs infos u table fits plain) ∙ there.1, there.2)

-- the table counts the same cells
pub cells_same : (structs : Structs) (infos : List StructInfo) (u : VarTy) (cells : List ℤ) → IsTable structs infos (length infos) → Fits structs infos u → is_plain_type (length infos) u ≡ true → cells_fit (typed.leaves_of infos u) cells ≡ true
    → cells_of structs (type_as u) ≡ length cells
cells_same structs infos u cells table fits plain fit =
    let counts = sizes_are_sound structs [] (type_as u) nowhere (subst SoundStructs (sym (append_nil structs)) table.sound) (subst (λ n. is_plain n (type_as u) ≡ true) (sym table.long) (plain_as (length infos) u plain)) (sized structs (type_as u) u refl fits.small) in
    sym counts.0
    ∙ (λ i. length (typed.leaves_of (infos_of (append_nil structs i)) (object_type_is u i)))
    ∙ ap length (leaves_stay structs infos u table)
    ∙ sym (fit_length (typed.leaves_of infos u) cells fit)
