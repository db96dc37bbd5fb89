-- Structs are sound where their fields name earlier structs and are small.
use Rattle.std.proofs.Common.{◌≡◌, ◌∙◌, sym, ap, refl, ℕ, suc, Bool, true, false, List, [], ◌∷◌, length}
use Rattle.std.specs.Prelude.{IsTrue, ◌&&◌, nat_le}
use Rattle.std.specs.List.{list_all}
use Rattle.pt_base.proofs.Booleans.{both_hold_first}
use Rattle.typed_tree.specs.declared.types.VarTy.{VarTy}
use Rattle.typed_tree.specs.declared.types.Field.{Field}
use Rattle.typed_tree.specs.declared.types.StructInfo.{StructInfo}
use Rattle.typed_tree.specs.WellFormed.{is_plain_type, is_small, structs_sound}
use Rattle.boot_rules.specs.Shapes.{is_small_by, shapes_from}
use Rattle.boot_rules.specs.Structs.{all_name_earlier}
use Rattle.boot_rules.proofs.BoolLemmas.{both_all}
use Rattle.boot_rules.proofs.SizeLemmas.{small_by}

-- each field of each passes
abbrev all_fields : (VarTy → Bool) → List StructInfo → Bool
all_fields test structs = list_all (λ s. list_all (λ f. test f.ty) s.fields) structs

parted : (n p q o s : Bool) → ((n && (p && q)) && (o && s)) ≡ (((n && p) && o) && (q && s))
parted false p q o s = refl
parted true false q o s = refl
parted true true true o s = refl
parted true true false true s = refl
parted true true false false s = refl

sound_parts : (all : List StructInfo) (k : ℕ) (structs : List StructInfo) → structs_sound all k structs ≡ (all_name_earlier k structs && all_fields (is_small all) structs)
sound_parts all k [] = refl
sound_parts all k (s ∷ structs) =
    ap (λ b. (nat_le 1 (length s.fields) && b) && structs_sound all (suc k) structs) (both_all (λ (f : Field). is_plain_type k f.ty) (λ (f : Field). is_small all f.ty) s.fields)
    ∙ ap (λ b. (nat_le 1 (length s.fields) && (list_all (λ (f : Field). is_plain_type k f.ty) s.fields && list_all (λ (f : Field). is_small all f.ty) s.fields)) && b) (sound_parts all (suc k) structs)
    ∙ parted (nat_le 1 (length s.fields)) (list_all (λ (f : Field). is_plain_type k f.ty) s.fields) (list_all (λ (f : Field). is_small all f.ty) s.fields) (all_name_earlier (suc k) structs) (all_fields (is_small all) structs)

-- the two tests that the code makes
pub struct_tests : (structs : List StructInfo) → (all_name_earlier 0 structs && all_fields (is_small_by (shapes_from [] structs)) structs) ≡ structs_sound structs 0 structs
struct_tests structs =
    ap (λ (test : VarTy → Bool). all_name_earlier 0 structs && all_fields test structs) (λ i ty. small_by structs ty i)
    ∙ sym (sound_parts structs 0 structs)

-- what is sound names earlier structs alone
pub earlier_if_sound : (structs : List StructInfo) → IsTrue (structs_sound structs 0 structs) → IsTrue (all_name_earlier 0 structs)
earlier_if_sound structs h = both_hold_first (all_name_earlier 0 structs) (all_fields (is_small structs) structs) (sym (sound_parts structs 0 structs) ∙ h)
