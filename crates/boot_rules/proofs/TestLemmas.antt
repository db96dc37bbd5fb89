-- The tests in their order are the definition.
use Rattle.std.proofs.Common.{◌≡◌, ◌∙◌, sym, ap, subst, refl, Bool, true, false, List, []}
use Rattle.std.specs.Prelude.{IsTrue, ◌&&◌}
use Rattle.std.specs.List.{list_all}
use Rattle.std.proofs.lemmas.Bool.{true≢false}
use Rattle.pt_base.proofs.Booleans.{and_with_false, both_hold, both_hold_first, both_hold_second}
use Rattle.host_models.specs.Fitting.{fits}
use Rattle.typed_tree.specs.declared.types.StructInfo.{StructInfo}
use Rattle.typed_tree.specs.WellFormed.{are_rising, structs_sound}
use Rattle.pt_core.specs.CodeTree.{BootTree}
use Rattle.pt_core.specs.WellFormed.{boot_program, are_in_order, global_fits, are_small, signature_fits, function_fits, callees, callee_fits, has_main, host_fits, hosts_fit, is_answered, is_well_formed, is_well_formed_boot}
use Rattle.boot_rules.specs.declared.shape.Shape.{Shape}
use Rattle.boot_rules.specs.Shapes.{is_small_by, shapes_from}
use Rattle.boot_rules.specs.Structs.{all_name_earlier}
use Rattle.boot_rules.specs.Tests.{host_numbers, is_in_order, call_fits, parts_fit}
use Rattle.boot_rules.proofs.BoolLemmas.{both_all}
use Rattle.boot_rules.proofs.StructLemmas.{struct_tests}

regrouped : (g m x f h t c a : Bool) → (g && m && x && f && h && t && (c && a)) ≡ ((((g && m) && ((x && f) && c)) && h) && (t && a))
regrouped false m x f h t c a = refl
regrouped true false x f h t c a = refl
regrouped true true false f h t c a = refl
regrouped true true true false h t c a = refl
regrouped true true true true true t true a = refl
regrouped true true true true false t true a = refl
regrouped true true true true h t false a = and_with_false (h && t)

-- where the lists are in order and the structs sound
behind : (o s r g m x f h t c a : Bool) → o ≡ true → s ≡ true → r ≡ true →
    (g && m && x && f && h && t && (c && a)) ≡ ((((o && s) && ((g && m) && ((x && f) && c))) && h) && ((r && t) && a))
behind o s r g m x f h t c a ordered sound rising = rw (ordered, sound, rising) (regrouped g m x f h t c a)

pub tested : (b : BootTree) → IsTrue (is_in_order b) → IsTrue (structs_sound b.structs 0 b.structs) → parts_fit b ≡ is_well_formed_boot fits b
unfolding is_in_order call_fits parts_fit is_well_formed is_well_formed_boot
tested b ordered sound =
    let p = boot_program b in
    ap (λ calls. list_all (global_fits b.structs) b.globals && are_small b.globals && list_all (λ s. signature_fits b.structs s.1) b.signatures && list_all (function_fits false p) b.functions && has_main p && list_all (host_fits fits p) b.hosts && calls)
    (both_all (callee_fits false p) (is_answered p (host_numbers b)) (callees p))
    ∙ behind (are_in_order p) (structs_sound b.structs 0 b.structs) (are_rising 0 (host_numbers b)) (list_all (global_fits b.structs) b.globals) (are_small b.globals) (list_all (λ s. signature_fits b.structs s.1) b.signatures)
    (list_all (function_fits false p) b.functions) (has_main p) (list_all (host_fits fits p) b.hosts) (list_all (callee_fits false p) (callees p)) (list_all (is_answered p (host_numbers b)) (callees p))
    (both_hold_first _ _ ordered) sound (both_hold_second _ _ ordered)

-- what is tested between the structs and main
abbrev middle : BootTree → Bool
middle b =
    (list_all (global_fits b.structs) b.globals && are_small b.globals)
    && ((list_all (λ s. signature_fits b.structs s.1) b.signatures && list_all (function_fits false (boot_program b)) b.functions)
    && list_all (callee_fits false (boot_program b)) (callees (boot_program b)))

no_order : (o s y h r t a : Bool) → (o && r) ≡ false → ((((o && s) && y) && h) && ((r && t) && a)) ≡ false
no_order false s y h r t a is = refl
no_order true s y h true t a is = absurd (true≢false is)
no_order true s y h false t a is = and_with_false ((s && y) && h)

-- lists that aren't in order
pub out_of_order : (b : BootTree) → is_in_order b ≡ false → is_well_formed_boot fits b ≡ false
unfolding is_in_order is_well_formed is_well_formed_boot
out_of_order b is =
    let p = boot_program b in
    no_order (are_in_order p) (structs_sound b.structs 0 b.structs) (middle b) (has_main p) (are_rising 0 (host_numbers b)) (list_all (host_fits fits p) b.hosts) (list_all (is_answered p (host_numbers b)) (callees p)) is

no_structs : (o s y h z : Bool) → s ≡ false → ((((o && s) && y) && h) && z) ≡ false
no_structs false s y h z is = refl
no_structs true true y h z is = absurd (true≢false is)
no_structs true false y h z is = refl

-- structs that aren't sound
pub unsound : (b : BootTree) → structs_sound b.structs 0 b.structs ≡ false → is_well_formed_boot fits b ≡ false
unfolding is_well_formed is_well_formed_boot
unsound b is = let p = boot_program b in no_structs (are_in_order p) (structs_sound b.structs 0 b.structs) (middle b) (has_main p) (hosts_fit fits p b.hosts) is

-- ---- the structs

abbrev small_fields : List Shape → List StructInfo → Bool
small_fields shapes structs = list_all (λ s. list_all (λ f. is_small_by shapes f.ty) s.fields) structs

pub not_earlier : (b : BootTree) (structs : List StructInfo) → structs ≡ b.structs → all_name_earlier 0 structs ≡ false → is_well_formed_boot fits b ≡ false
not_earlier b structs same is =
    let fails : all_name_earlier 0 b.structs ≡ false = subst (λ xs. all_name_earlier 0 xs ≡ false) same is in
    unsound b (sym (struct_tests b.structs) ∙ ap (λ z. z && small_fields (shapes_from [] b.structs) b.structs) fails)

pub not_small : (b : BootTree) (structs : List StructInfo) (shapes : List Shape) → structs ≡ b.structs → shapes ≡ shapes_from [] structs → small_fields shapes structs ≡ false → is_well_formed_boot fits b ≡ false
not_small b structs shapes same kept is =
    let here : small_fields (shapes_from [] structs) structs ≡ false = ap (λ xs. small_fields xs structs) (sym kept) ∙ is in
    let fails : small_fields (shapes_from [] b.structs) b.structs ≡ false = subst (λ xs. small_fields (shapes_from [] xs) xs ≡ false) same here in
    unsound b (sym (struct_tests b.structs) ∙ ap (λ z. all_name_earlier 0 b.structs && z) fails ∙ and_with_false (all_name_earlier 0 b.structs))

pub sound_by : (b : BootTree) (structs : List StructInfo) (shapes : List Shape) → structs ≡ b.structs → shapes ≡ shapes_from [] structs → all_name_earlier 0 structs ≡ true → small_fields shapes structs ≡ true →
    IsTrue (structs_sound b.structs 0 b.structs)
sound_by b structs shapes same kept earlier small =
    let here : small_fields (shapes_from [] structs) structs ≡ true = ap (λ xs. small_fields xs structs) (sym kept) ∙ small in
    let first : all_name_earlier 0 b.structs ≡ true = subst (λ xs. all_name_earlier 0 xs ≡ true) same earlier in
    let second : small_fields (shapes_from [] b.structs) b.structs ≡ true = subst (λ xs. small_fields (shapes_from [] xs) xs ≡ true) same here in
    sym (struct_tests b.structs) ∙ both_hold (all_name_earlier 0 b.structs) (small_fields (shapes_from [] b.structs) b.structs) first second
