-- The leaves of a struct in the typed tree are those of its fields, where the table is sound.
use Rattle.std.proofs.Common.{◌≡◌, ◌++◌, ◌∙◌, sym, ap, subst, refl, ℕ, suc, List, [], ◌∷◌, length, map, Some}
use Rattle.std.specs.Prelude.{IsTrue, nat_le, slice_get, option_map}
use Rattle.std.specs.List.{list_all, flat_map}
use Rattle.std.proofs.lemmas.List.Folds.{flat_map-map}
use Rattle.std.proofs.lemmas.Option.{slice_get-map}
use Rattle.pt_base.specs.declared.int_type.IntType.{IntType}
use Rattle.pt_base.proofs.Booleans.{both_hold, both_hold_first, both_hold_second}
use Rattle.pt_base.proofs.Lists.{length_pushed}
use Rattle.type_rules.specs.declared.types.Type.{«Type»}
use Rattle.type_rules.specs.declared.types.Type.TheVariants.{Bad, Void, Int, Struct, Array, Pointer}
use Rattle.typed_tree.specs.declared.types.VarTy.TheVariants as v
use Rattle.typed_tree.specs.Cells.{leaves_of}
use Rattle.typed_tree.specs.WellFormed.{is_plain_type}
use Rattle.typed_tree.proofs.LeavesLemmas.{names_earlier, all_name_earlier, leaves_of_earlier}
use Rattle.check_declarations.specs.declared.structs.StructEntry.{StructEntry}
use Rattle.check_declarations.specs.Cells.{cells_of, object_limit}
use Rattle.check_declarations.specs.NameTables.{values}
use Rattle.check_declarations.specs.Structs.{Fields, Structs}
use Rattle.check_expressions.specs.Operands.{var_type}
use Rattle.check_expressions.specs.StructInfos.{object_type_of, field_info, struct_info, infos_of}
use Rattle.type_law.specs.DeclarationsTypes.{is_plain}
use Rattle.type_law.specs.DeclarationsSound.{field_sound, SoundFrom, SoundStructs}

pub object_type_int : (t : IntType) → object_type_of (Int t) ≡ v.Int t
unfolding var_type
object_type_int t = refl

pub object_type_struct : (n : ℕ) → object_type_of (Struct n) ≡ v.Struct n
unfolding var_type
object_type_struct n = refl

-- a good type of a global or a field is one in the typed tree
pub typed_plain : (structs : ℕ) (t : «Type») → IsTrue (is_plain structs t) → IsTrue (is_plain_type structs (object_type_of t))
unfolding var_type
typed_plain structs Bad h = cc
typed_plain structs Void h = cc
typed_plain structs (Int t) h = refl
typed_plain structs (Struct n) h = h
typed_plain structs (Array e count) h = h
typed_plain structs (Pointer e fixed) h = h

fields_earlier : (before : Structs) (fs : Fields) → IsTrue (list_all (field_sound before) (values fs)) → IsTrue (list_all (λ f. is_plain_type (length before) f.ty) (map field_info fs))
fields_earlier before [] h = refl
fields_earlier before (f ∷ fs) h =
    let here = both_hold_first (field_sound before f.1) (list_all (field_sound before) (values fs)) h in
    let plain = both_hold_first (is_plain (length before) f.1.ty) (nat_le (cells_of before f.1.ty) object_limit) here in
    both_hold (is_plain_type (length before) (object_type_of f.1.ty)) (list_all (λ g. is_plain_type (length before) g.ty) (map field_info fs)) (typed_plain (length before) f.1.ty plain)
    (fields_earlier before fs (both_hold_second (field_sound before f.1) (list_all (field_sound before) (values fs)) h))

-- the fields of a sound table's structs name earlier structs alone
structs_earlier : (before rest : Structs) → SoundFrom before rest → IsTrue (all_name_earlier (length before) (infos_of rest))
structs_earlier before [] h = refl
structs_earlier before (s ∷ rest) h =
    both_hold (names_earlier (length before) (struct_info s)) (all_name_earlier (suc (length before)) (infos_of rest)) (fields_earlier before s.1.fields h.0.fields)
    (subst (λ n. IsTrue (all_name_earlier n (infos_of rest))) (length_pushed before s) (structs_earlier (before ++ s ∷ []) rest h.1))

-- a struct's leaves are those of its fields, one after the other
pub leaves_of_struct : (all : Structs) (n : ℕ) (s : List ℕ × StructEntry) → SoundStructs all → slice_get all n ≡ Some s
    → leaves_of (infos_of all) (v.Struct n) ≡ flat_map (λ f. leaves_of (infos_of all) (object_type_of f.ty)) (values s.1.fields)
leaves_of_struct all n s h e =
    leaves_of_earlier (infos_of all) n (struct_info s) (structs_earlier [] all h) (slice_get-map struct_info all n ∙ ap (option_map struct_info) e)
    ∙ flat_map-map (λ f. leaves_of (infos_of all) f.ty) field_info s.1.fields
    ∙ sym (flat_map-map (λ f. leaves_of (infos_of all) (object_type_of f.ty)) (λ e. e.1) s.1.fields)
