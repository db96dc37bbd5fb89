-- A sound table makes a well formed list of structs.
use Rattle.std.proofs.Common.{◌≡◌, ◌≤◌, ◌++◌, ◌∙◌, sym, ap, subst, refl, ℕ, suc, List, [], ◌∷◌, length, map, arith}
use Rattle.std.specs.Prelude.{IsTrue, nat_le}
use Rattle.std.specs.List.{list_all}
use Rattle.std.proofs.lemmas.Bool.Decides.{nat_tests}
use Rattle.std.proofs.lemmas.List.{append_assoc, length-append, length-map}
use Rattle.pt_base.proofs.Booleans.{both_hold, both_hold_first, both_hold_second}
use Rattle.typed_tree.specs.WellFormed as typed
use Rattle.check_declarations.specs.declared.structs.StructEntry.{StructEntry}
use Rattle.check_declarations.specs.Cells.{cells_of, object_limit}
use Rattle.check_declarations.specs.NameTables.{values}
use Rattle.check_declarations.specs.Structs.{Fields, Structs}
use Rattle.check_expressions.specs.StructInfos.{field_info, struct_info, infos_of}
use Rattle.type_law.specs.DeclarationsTypes.{is_plain}
use Rattle.type_law.specs.DeclarationsSound.{SoundFrom}
use Rattle.type_law.specs.DeclarationsLaws.{StructsAreWellFormed}
use Rattle.type_law.proofs.DeclarationsTableLemmas.{field_at, SoundAt, sound_from}
use Rattle.type_law.proofs.DeclarationsTypedLeaves.{typed_plain}
use Rattle.type_law.proofs.DeclarationsSizeLemmas.{Counts, object_counts, all_count}

fields_fit : (all : Structs) (n : ℕ) (fs : Fields) → Counts all n → IsTrue (list_all (field_at all n) (values fs))
    → IsTrue (list_all (typed.field_sound (infos_of all) n) (map field_info fs))
fields_fit all n [] counts h = refl
fields_fit all n (f ∷ fs) counts h =
    let here = both_hold_first (field_at all n f.1) (list_all (field_at all n) (values fs)) h in
    let plain = both_hold_first (is_plain n f.1.ty) (nat_le (cells_of all f.1.ty) object_limit) here in
    let small = both_hold_second (is_plain n f.1.ty) (nat_le (cells_of all f.1.ty) object_limit) here in
    let exact = object_counts all n f.1.ty counts plain (grind (arith, nat_tests, small)) in
    both_hold _ _ (both_hold _ _ (typed_plain n f.1.ty plain) (subst (λ k. IsTrue (nat_le k 65536)) (sym exact) small))
    (fields_fit all n fs counts (both_hold_second (field_at all n f.1) (list_all (field_at all n) (values fs)) h))

struct_fits : (all : Structs) (n : ℕ) (s : List ℕ × StructEntry) → Counts all n → SoundAt all n s.1 → IsTrue (typed.struct_sound (infos_of all) n (struct_info s))
struct_fits all n s counts h =
    let some = h.some in
    let same = length-map s.1.fields field_info in
    let more : 1 ≤ length (map field_info s.1.fields) = omega (arith, some, same) in
    both_hold _ _ (grind (arith, nat_tests, more)) (fields_fit all n s.1.fields counts h.fields)

structs_fit : (all before rest : Structs) (n : ℕ) → all ≡ before ++ rest → n ≡ length before → Counts all (length all) → SoundFrom before rest
    → IsTrue (typed.structs_sound (infos_of all) n (infos_of rest))
structs_fit all before [] n is at counts h = refl
structs_fit all before (s ∷ rest) n is at counts h =
    let here : SoundAt all n s.1 = subst (λ x. SoundAt x n s.1) (sym is) (sound_from before (s ∷ rest) 0 n s (omega (arith, at)) h refl) in
    let long : n ≤ length all = omega (arith, at, ap length is, length-append before (s ∷ rest)) in
    let earlier : Counts all n = λ m below. counts m (omega (arith, below, long)) in
    both_hold _ _ (struct_fits all n s earlier here)
    (structs_fit all (before ++ s ∷ []) rest (suc n) (is ∙ sym (append_assoc before (s ∷ []) rest)) (omega (arith, at, length-append before (s ∷ []))) counts h.1)

pub structs_are_well_formed : StructsAreWellFormed
structs_are_well_formed structs h = structs_fit structs [] structs 0 refl refl (all_count structs h) h
