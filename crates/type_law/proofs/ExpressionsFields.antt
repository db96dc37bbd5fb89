-- The fields of the judged structs are those of the typed tree's structs.
use Rattle.std.proofs.Common.{◌≡◌, ◌∙◌, ◌≤◌, ◌<◌, ◌+◌, ℕ, refl, ap, sym, subst, List, ◌++◌, Option, Some, None, length, arith}
use Rattle.std.specs.Prelude.{IsTrue, slice_get, option_map, option_and_then}
use Rattle.std.proofs.lemmas.List.{length-append, length-map}
use Rattle.std.proofs.lemmas.Option.{slice_get-map, slice_get_within}
use Rattle.pt_base.proofs.Booleans.{both_hold_first}
use Rattle.pt_base.proofs.Members.{all_hold_at}
use Rattle.pt_base.proofs.Places.{get_kept}
use Rattle.typed_tree.specs.declared.types.VarTy.TheVariants as v
use Rattle.typed_tree.specs.declared.types.Field.{Field}
use Rattle.typed_tree.specs.declared.types.StructInfo.{StructInfo}
use Rattle.typed_tree.specs.WellFormedExpression.{Names, field_type}
use Rattle.check_declarations.specs.declared.structs.FieldEntry.{FieldEntry}
use Rattle.check_declarations.specs.declared.structs.FoundField.{FoundField}
use Rattle.check_declarations.specs.declared.structs.StructEntry.{StructEntry}
use Rattle.check_declarations.specs.NameTables.{number_of, value_at, values}
use Rattle.check_declarations.specs.Structs.{Fields, Structs, found_in, field_named}
use Rattle.check_expressions.specs.StructInfos.{field_info, struct_info, infos_of}
use Rattle.type_law.specs.DeclarationsTypes.{is_plain}
use Rattle.type_law.specs.DeclarationsSound.{SoundStructs}
use Rattle.type_law.proofs.DeclarationsGoodTypes.{plain_more, plain_variable}
use Rattle.type_law.proofs.DeclarationsTableLemmas.{sound_at, sound_prefix}
use Rattle.type_law.proofs.DeclarationsTableLemmas as tables
use Rattle.type_law.proofs.StatementsTypeLemmas.{has_object_type}
use Rattle.type_law.proofs.ExpressionsPostfixes.{FieldsAgree}

-- ---- a field that is found stands in its struct

record FoundAt (structs : Structs) (m : ℕ) (f : FoundField) : Type 0 where
  entry : List ℕ × StructEntry
  at : slice_get structs m ≡ Some entry
  name : List ℕ
  field : slice_get entry.1.fields f.number ≡ Some (name, f.entry)

record FieldAt (fields : Fields) (f : FoundField) : Type 0 where
  name : List ℕ
  field : slice_get fields f.number ≡ Some (name, f.entry)

field_at : (fields : Fields) (name : List ℕ) (f : FoundField) → found_in fields name ≡ Some f → FieldAt fields f
field_at fields name f h = by_number (number_of fields name) h
  where
    by_entry : (k : ℕ) (o : Option (List ℕ × FieldEntry)) → slice_get fields k ≡ o → option_map (λ (x : FieldEntry). let g : FoundField = record { number = k; entry = x } in g) (option_map (λ e. e.1) o) ≡ Some f → FieldAt fields f
    by_entry k None e z = cc
    by_entry k (Some (x, y)) e z =
        let g : FoundField = record { number = k; entry = y } in
        let same : g ≡ f = cc in
        subst (λ u. FieldAt fields u) same (record { name = x; field = e })

    by_number : (o : Option ℕ) → option_and_then (λ k. option_map (λ (x : FieldEntry). let g : FoundField = record { number = k; entry = x } in g) (value_at fields k)) o ≡ Some f → FieldAt fields f
    by_number None z = cc
    by_number (Some k) z = by_entry k (slice_get fields k) refl z

found_at : (structs : Structs) (m : ℕ) (name : List ℕ) (f : FoundField) → field_named structs m name ≡ Some f → FoundAt structs m f
found_at structs m name f h = by_struct (slice_get structs m) refl h
  where
    by_struct : (o : Option (List ℕ × StructEntry)) → slice_get structs m ≡ o → option_and_then (λ fields. found_in fields name) (option_map (λ (s : StructEntry). s.fields) (option_map (λ e. e.1) o)) ≡ Some f → FoundAt structs m f
    by_struct None e z = cc
    by_struct (Some (tag, s)) e z = let x = field_at s.fields name f z in record { entry = (tag, s); at = e; name = x.name; field = x.field }

-- ---- the struct in the typed tree

field_plain : (structs : Structs) (m : ℕ) (f : FoundField) (more : Structs) → SoundStructs (structs ++ more) → FoundAt structs m f → IsTrue (is_plain m f.entry.ty)
field_plain structs m f more h p =
    let s = sound_at structs m p.entry (sound_prefix structs more h) p.at in
    let entry : slice_get (values p.entry.1.fields) f.number ≡ Some f.entry = slice_get-map (λ (e : List ℕ × FieldEntry). e.1) p.entry.1.fields f.number ∙ ap (option_map (λ (e : List ℕ × FieldEntry). e.1)) p.field in
    both_hold_first (is_plain m f.entry.ty) _ (all_hold_at (tables.field_at structs m) (values p.entry.1.fields) f.number f.entry s.fields entry)

type_in : (structs : List StructInfo) (m k : ℕ) (s : StructInfo) (f : Field) → slice_get structs m ≡ Some s → slice_get s.fields k ≡ Some f → field_type structs (Some (v.Struct m)) k ≡ Some f.ty
type_in structs m k s f h g = ap (λ o. option_and_then (λ (x : StructInfo). option_map (λ (y : Field). y.ty) (slice_get x.fields k)) o) h ∙ ap (option_map (λ (y : Field). y.ty)) g

pub fields_agree : (n : Names) (structs more : Structs) → SoundStructs (structs ++ more) → n.structs ≡ infos_of (structs ++ more) → FieldsAgree n structs
fields_agree n structs more h is m name f found =
    let p = found_at structs m name f found in
    let plain = field_plain structs m f more h p in
    let info : slice_get (infos_of (structs ++ more)) m ≡ Some (struct_info p.entry) = slice_get-map struct_info (structs ++ more) m ∙ ap (option_map struct_info) (get_kept structs more m p.entry p.at) in
    let field : slice_get (struct_info p.entry).fields f.number ≡ Some (field_info (p.name, f.entry)) = slice_get-map field_info p.entry.1.fields f.number ∙ ap (option_map field_info) p.field in
    let within : m < length structs = slice_get_within structs m p.entry p.at in
    let good = plain_variable (length structs) f.entry.ty (plain_more m (length structs) f.entry.ty (omega (arith, within)) plain) in (
      ap (λ ss. field_type ss (Some (v.Struct m)) f.number) is ∙ type_in (infos_of (structs ++ more)) m f.number (struct_info p.entry) (field_info (p.name, f.entry)) info field ∙ sym (has_object_type (length structs) f.entry.ty good),
      good,
    )

pub count_within : (n : Names) (structs more : Structs) → n.structs ≡ infos_of (structs ++ more) → length structs ≤ length n.structs
count_within n structs more is =
    let size : length n.structs ≡ length (structs ++ more) = ap length is ∙ length-map (structs ++ more) struct_info in
    let parts : length (structs ++ more) ≡ length structs + length more = length-append structs more in
    omega arith
