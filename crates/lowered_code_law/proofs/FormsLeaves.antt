-- The integers of an object, each as a place: they fit, and have the types of the leaves.
use Rattle.std.proofs.Common.{◌≡◌, ◌∙◌, ◌≤◌, ◌<◌, ℕ, ℤ, pos, zero, suc, ◌+◌, refl, ap, sym, subst, arith, Bool, true, false, Some, List, [], ◌∷◌, ◌++◌, length, map}
use Rattle.std.specs.Prelude.{◌≤ℤ◌, int_le, slice_get, get_or, unwrap_or, nat_lt, nat_le}
use Rattle.std.specs.List.{list_all, flat_map}
use Rattle.std.proofs.lemmas.Bool.Decides.{nat_tests}
use Rattle.std.proofs.lemmas.Int.{ints}
use Rattle.pt_base.specs.declared.int_type.IntType.{IntType}
use Rattle.pt_base.specs.declared.int_type.IntType.TheVariants as i
use Rattle.pt_base.specs.declared.span.Span.{Span}
use Rattle.pt_base.specs.IntTypes.{low_of, high_of}
use Rattle.pt_base.proofs.Booleans.{both_hold, both_hold_first, both_hold_second, false_not_true}
use Rattle.pt_base.proofs.Lists.{length_pushed}
use Rattle.pt_base.proofs.Places.{get_before, get_or_before, get_or_pushed, get_pushed_at}
use Rattle.pt_int.specs.Conversion.{is_in_range}
use Rattle.pt_tree.specs.declared.signature.Elem.{Elem}
use Rattle.pt_tree.specs.declared.signature.Elem.TheVariants as e
use Rattle.typed_tree.specs.declared.types.VarTy.{VarTy}
use Rattle.typed_tree.specs.declared.types.VarTy.TheVariants.{Int, Struct, Array, Pointer}
use Rattle.typed_tree.specs.declared.types.Field.{Field}
use Rattle.typed_tree.specs.declared.types.StructInfo.{StructInfo}
use Rattle.typed_tree.specs.Cells.{repeated, element_leaves, object_leaves, struct_leaves, leaves_from, leaves_of}
use Rattle.typed_tree.specs.TypeTests.{type_of_elem, is_scalar}
use Rattle.typed_tree.specs.WellFormedExpression.{is_elem}
use Rattle.typed_tree.specs.WellFormedStatement.{item_types}
use Rattle.typed_tree.specs.WellFormed.{is_plain_type, is_variable_type, is_small, field_sound, struct_sound, structs_sound}
use Rattle.typed_tree.proofs.LeavesLemmas.{kept}
use Rattle.pt_core.specs.CodeTree.{PlaceTree, constant, decay, move}
use Rattle.pt_core.specs.Types.{Context, place_type, field_type}
use Rattle.pt_core.specs.WellFormedExpression.{is_field, place_fits}
use Rattle.lowering.specs.Leaves.{Step, to_field, to_element, Ways, begun_with, element_ways, elem_ways, object_ways, field_ways, ways_from, ways_of, stepped_to, at_end_of, leaf_places}
use Rattle.lowered_code_law.proofs.FormsSteps.{constant_fits, move_fits}
use Rattle.lowered_code_law.proofs.FormsPlaces.{FieldIs, decay_fits, deref_fits, deref_type, field_fits, field_in_struct, field_typed}

-- ---- numbers of the code

at_most : (a b : ℤ) → a ≤ℤ b → int_le a b ≡ true
at_most a b h = grind (arith, ints)

pub number_fits : (k : ℕ) → k ≤ 0x7fff_ffff → is_in_range i.Int (pos k) ≡ true
number_fits k h = both_hold (int_le (low_of i.Int) (pos k)) (int_le (pos k) (high_of i.Int)) (at_most (low_of i.Int) (pos k) (grind (arith, ints))) (at_most (pos k) (high_of i.Int) (grind (arith, ints)))

-- ---- ways that lead to integers

-- from every place of the one type a way leads to one of the other
abbrev LeadsTo : Context → Span → VarTy → List Step → VarTy → Type 0
LeadsTo c s ty way u = (p : PlaceTree) → place_fits c p ≡ true → place_type c p ≡ ty → (place_fits c (at_end_of s way p) ≡ true) × (place_type c (at_end_of s way p) ≡ u)

-- each way leads to an integer of the type of its leaf
abbrev AllLead : Context → Span → VarTy → Ways → List IntType → Type 0
AllLead c s ty [] [] = Unit {0}
AllLead c s ty [] (u ∷ us) = false ≡ true
AllLead c s ty (way ∷ ways) [] = false ≡ true
AllLead c s ty (way ∷ ways) (u ∷ us) = LeadsTo c s ty way (Int u) × AllLead c s ty ways us

lead_both : (c : Context) (s : Span) (ty : VarTy) (ws vs : Ways) (us ts : List IntType) → AllLead c s ty ws us → AllLead c s ty vs ts → AllLead c s ty (ws ++ vs) (us ++ ts)
lead_both c s ty [] vs [] ts h k = k
lead_both c s ty [] vs (u ∷ us) ts h k = false_not_true h
lead_both c s ty (w ∷ ws) vs [] ts h k = false_not_true h
lead_both c s ty (w ∷ ws) vs (u ∷ us) ts h k = (h.0, lead_both c s ty ws vs us ts h.1 k)

-- the ways from a part, behind a step to it
lead_behind : (c : Context) (s : Span) (ty part : VarTy) (step : Step) (ws : Ways) (us : List IntType) →
    ((p : PlaceTree) → place_fits c p ≡ true → place_type c p ≡ ty → (place_fits c (stepped_to s p step) ≡ true) × (place_type c (stepped_to s p step) ≡ part)) → AllLead c s part ws us → AllLead c s ty (begun_with step ws) us
lead_behind c s ty part step [] [] one h = tt
lead_behind c s ty part step [] (u ∷ us) one h = false_not_true h
lead_behind c s ty part step (w ∷ ws) [] one h = false_not_true h
lead_behind c s ty part step (w ∷ ws) (u ∷ us) one h = (λ p k is. let there = one p k is in h.0 (stepped_to s p step) there.0 there.1, lead_behind c s ty part step ws us one h.1)

to_field_leads : (c : Context) (s : Span) (ty u : VarTy) (k : ℕ) → FieldIs c.structs ty u k → (p : PlaceTree) → place_fits c p ≡ true → place_type c p ≡ ty → (place_fits c (stepped_to s p (to_field k)) ≡ true) × (place_type c (stepped_to s p (to_field k)) ≡ u)
to_field_leads c s ty u k is p h at =
    (field_fits c p k h (subst (λ z. is_field c.structs z k ≡ true) (sym at) is.field), field_typed c p k ∙ ap (λ z. field_type c.structs z k) at ∙ is.type)

to_element_leads : (c : Context) (s : Span) (elem : Elem) (count k : ℕ) → k ≤ 0x7fff_ffff → (p : PlaceTree) → place_fits c p ≡ true → place_type c p ≡ Array elem count →
    (place_fits c (stepped_to s p (to_element k)) ≡ true) × (place_type c (stepped_to s p (to_element k)) ≡ type_of_elem elem)
to_element_leads c s elem count k small p h at =
    let moved = move_fits c elem false i.Int (decay p) (constant i.Int (pos k)) false s (decay_fits c p elem count false h at) (constant_fits c i.Int (pos k) (number_fits k small)) in
    (deref_fits c elem false (move (decay p) (constant i.Int (pos k)) false s) s moved, deref_type c elem false (move (decay p) (constant i.Int (pos k)) false s) s moved)

-- ---- elements

elements_lead : (c : Context) (s : Span) (elem : Elem) (count more k : ℕ) (ws : Ways) (us : List IntType) → k + more ≤ 65_536 → AllLead c s (type_of_elem elem) ws us → AllLead c s (Array elem count) (element_ways more k ws) (repeated more us)
elements_lead c s elem count zero k ws us small h = tt
elements_lead c s elem count (suc more) k ws us small h =
    lead_both c s (Array elem count) (begun_with (to_element k) ws) (element_ways more (k + 1) ws) us (repeated more us)
    (lead_behind c s (Array elem count) (type_of_elem elem) (to_element k) ws us (to_element_leads c s elem count k (below k more small)) h)
    (elements_lead c s elem count more (k + 1) ws us (next k more small) h)
  where
    below : (k m : ℕ) → k + suc m ≤ 65_536 → k ≤ 0x7fff_ffff
    below k m h = omega (arith, h)

    next : (k m : ℕ) → k + suc m ≤ 65_536 → k + 1 + m ≤ 65_536
    next k m h = omega (arith, h)

no_elements_lead : (c : Context) (s : Span) (ty : VarTy) (more k : ℕ) → AllLead c s ty (element_ways more k []) (repeated more [])
no_elements_lead c s ty zero k = tt
no_elements_lead c s ty (suc more) k = no_elements_lead c s ty more (k + 1)

longer_behind : {A : Type 0} (xs ys : List A) → length ys ≤ length (xs ++ ys)
longer_behind [] ys = omega arith
longer_behind (x ∷ xs) ys = let h = longer_behind xs ys in omega (arith, h)

count_below : (count : ℕ) (u : IntType) (us : List IntType) → count ≤ length (repeated count (u ∷ us))
count_below zero u us = omega arith
count_below (suc n) u us = let h = count_below n u us in let k = longer_behind us (repeated n (u ∷ us)) in omega (arith, h, k)

array_leads : (c : Context) (s : Span) (elem : Elem) (count : ℕ) (ws : Ways) (us : List IntType) → length (repeated count us) ≤ 65_536 → AllLead c s (type_of_elem elem) ws us → AllLead c s (Array elem count) (element_ways count 0 ws) (repeated count us)
array_leads c s elem count [] [] small h = no_elements_lead c s (Array elem count) count 0
array_leads c s elem count (w ∷ ws) [] small h = false_not_true h
array_leads c s elem count ws (u ∷ us) small h = let k = count_below count u us in elements_lead c s elem count count 0 ws (u ∷ us) (omega (arith, k, small)) h

-- ---- structs

-- the ways and the leaves of each struct of a table agree
record TablesLead (c : Context) (s : Span) (ways : List Ways) (leaves : List (List IntType)) : Type 0 where
  same : length ways ≡ length leaves
  each : (n : ℕ) → n < length leaves → AllLead c s (Struct n) (get_or ways n []) (unwrap_or (slice_get leaves n) [])

elem_leads : (c : Context) (s : Span) (ways : List Ways) (leaves : List (List IntType)) (elem : Elem) → TablesLead c s ways leaves → is_elem (length leaves) (Some elem) ≡ true → AllLead c s (type_of_elem elem) (elem_ways ways elem) (element_leaves leaves elem)
elem_leads c s ways leaves (e.Int t) h k = (λ p fits is. (fits, is), tt)
elem_leads c s ways leaves (e.Struct n) h k = h.each n (grind (arith, nat_tests))

object_leads : (c : Context) (s : Span) (ways : List Ways) (leaves : List (List IntType)) (ty : VarTy) → TablesLead c s ways leaves → is_plain_type (length leaves) ty ≡ true → length (object_leaves leaves ty) ≤ 65_536 → AllLead c s ty (object_ways ways ty) (object_leaves leaves ty)
object_leads c s ways leaves (Int t) h k small = (λ p fits is. (fits, is), tt)
object_leads c s ways leaves (Struct n) h k small = h.each n (grind (arith, nat_tests))
object_leads c s ways leaves (Array elem count) h k small =
    array_leads c s elem count (elem_ways ways elem) (element_leaves leaves elem) small (elem_leads c s ways leaves elem h (both_hold_first (is_elem (length leaves) (Some elem)) (nat_le 1 count) k))
object_leads c s ways leaves (Pointer elem fixed) h k small = false_not_true k

same_leaves : (known : List (List IntType)) (ss : List StructInfo) (ty : VarTy) → is_plain_type (length known) ty ≡ true → object_leaves (leaves_from known ss) ty ≡ object_leaves known ty
same_leaves known ss (Int t) h = refl
same_leaves known ss (Struct n) h = ap (λ o. unwrap_or o []) (kept known ss n (grind (arith, nat_tests)))
same_leaves known ss (Array (e.Int t) count) h = refl
same_leaves known ss (Array (e.Struct n) count) h =
    let below = both_hold_first (nat_lt n (length known)) (nat_le 1 count) h in
    ap (λ o. repeated count (unwrap_or o [])) (kept known ss n (grind (arith, nat_tests, below)))
same_leaves known ss (Pointer elem fixed) h = false_not_true h

-- the cells of a field that is small are as few by the structs before it
few : (structs ss : List StructInfo) (known : List (List IntType)) (ty : VarTy) → leaves_from known ss ≡ leaves_from [] structs → is_plain_type (length known) ty ≡ true → is_small structs ty ≡ true → length (object_leaves known ty) ≤ 65_536
unfolding leaves_of
few structs ss known ty whole plain small =
    let same : object_leaves (leaves_from [] structs) ty ≡ object_leaves known ty = ap (λ z. object_leaves z ty) (sym whole) ∙ same_leaves known ss ty plain in
    subst (λ z. length z ≤ 65_536) same (grind (arith, nat_tests))

-- the fields from this one on
fields_lead : (c : Context) (s : Span) (ss : List StructInfo) (ways : List Ways) (leaves : List (List IntType)) (n j : ℕ) (fs : List Field) → TablesLead c s ways leaves → leaves_from leaves ss ≡ leaves_from [] c.structs →
    list_all (field_sound c.structs (length leaves)) fs ≡ true → ((k : ℕ) (y : Field) → slice_get fs k ≡ Some y → FieldIs c.structs (Struct n) y.ty (j + k)) →
    AllLead c s (Struct n) (field_ways ways j fs) (flat_map (λ f. object_leaves leaves f.ty) fs)
fields_lead c s ss ways leaves n j [] h whole sound at = tt
fields_lead c s ss ways leaves n j (f ∷ fs) h whole sound at =
    let one = both_hold_first (field_sound c.structs (length leaves) f) (list_all (field_sound c.structs (length leaves)) fs) sound in
    let plain = both_hold_first (is_plain_type (length leaves) f.ty) (is_small c.structs f.ty) one in
    let small = few c.structs ss leaves f.ty whole plain (both_hold_second (is_plain_type (length leaves) f.ty) (is_small c.structs f.ty) one) in
    let here : FieldIs c.structs (Struct n) f.ty j = subst (λ z. FieldIs c.structs (Struct n) f.ty z) (first j) (at 0 f refl) in
    lead_both c s (Struct n) (begun_with (to_field j) (object_ways ways f.ty)) (field_ways ways (j + 1) fs) (object_leaves leaves f.ty) (flat_map (λ f. object_leaves leaves f.ty) fs)
    (lead_behind c s (Struct n) f.ty (to_field j) (object_ways ways f.ty) (object_leaves leaves f.ty) (to_field_leads c s (Struct n) f.ty j here) (object_leads c s ways leaves f.ty h plain small))
    (fields_lead c s ss ways leaves n (j + 1) fs h whole (both_hold_second (field_sound c.structs (length leaves) f) (list_all (field_sound c.structs (length leaves)) fs) sound)
    (λ k y is. subst (λ z. FieldIs c.structs (Struct n) y.ty z) (next j k) (at (suc k) y is)))
  where
    first : (j : ℕ) → j + 0 ≡ j
    first j = omega arith

    next : (j k : ℕ) → j + suc k ≡ j + 1 + k
    next j k = omega arith

-- one struct more
table_with : (c : Context) (s : Span) (ways : List Ways) (leaves : List (List IntType)) (ws : Ways) (us : List IntType) → TablesLead c s ways leaves → AllLead c s (Struct (length leaves)) ws us → TablesLead c s (ways ++ ws ∷ []) (leaves ++ us ∷ [])
table_with c s ways leaves ws us h k = record {
  same = length_pushed ways ws ∙ ap suc h.same ∙ sym (length_pushed leaves us);
  each = λ n below. go n below (nat_lt n (length leaves)) refl;
}
  where
    earlier : (n : ℕ) → n < length leaves → AllLead c s (Struct n) (get_or (ways ++ ws ∷ []) n []) (unwrap_or (slice_get (leaves ++ us ∷ []) n) [])
    earlier n low =
        let same = h.same in
        subst (λ z. AllLead c s (Struct n) z (unwrap_or (slice_get (leaves ++ us ∷ []) n) [])) (sym (get_or_before ways ws [] n (omega (arith, low, same))))
        (subst (λ z. AllLead c s (Struct n) (get_or ways n []) (unwrap_or z [])) (sym (get_before leaves (us ∷ []) n low)) (h.each n low))

    newest : (n : ℕ) → n ≡ length leaves → AllLead c s (Struct n) (get_or (ways ++ ws ∷ []) n []) (unwrap_or (slice_get (leaves ++ us ∷ []) n) [])
    newest n is =
        subst (λ z. AllLead c s (Struct n) z (unwrap_or (slice_get (leaves ++ us ∷ []) n) [])) (sym (get_or_pushed ways ws [] n (is ∙ sym h.same)))
        (subst (λ z. AllLead c s (Struct n) ws (unwrap_or z [])) (sym (get_pushed_at leaves us n is)) (subst (λ z. AllLead c s (Struct z) ws us) (sym is) k))

    go : (n : ℕ) → n < length (leaves ++ us ∷ []) → (b : Bool) → nat_lt n (length leaves) ≡ b → AllLead c s (Struct n) (get_or (ways ++ ws ∷ []) n []) (unwrap_or (slice_get (leaves ++ us ∷ []) n) [])
    go n below true is = earlier n (grind (arith, nat_tests, is))
    go n below false is = let more = length_pushed leaves us in newest n (grind (arith, nat_tests, is, below, more))

-- the structs of a list, of which these stand behind so many
structs_lead : (c : Context) (s : Span) (before rest : List StructInfo) (ways : List Ways) (leaves : List (List IntType)) → structs_sound c.structs 0 c.structs ≡ true → before ++ rest ≡ c.structs → length leaves ≡ length before →
    structs_sound c.structs (length leaves) rest ≡ true → leaves_from leaves rest ≡ leaves_from [] c.structs → TablesLead c s ways leaves → TablesLead c s (ways_from ways rest) (leaves_from leaves rest)
structs_lead c s before [] ways leaves all is at sound whole h = h
structs_lead c s before (x ∷ rest) ways leaves all is at sound whole h =
    let one = both_hold_first (struct_sound c.structs (length leaves) x) (structs_sound c.structs (suc (length leaves)) rest) sound in
    let fields = both_hold_second (nat_le 1 (length x.fields)) (list_all (field_sound c.structs (length leaves)) x.fields) one in
    let found : slice_get c.structs (length leaves) ≡ Some x = subst (λ z. slice_get z (length leaves) ≡ Some x) is (found_behind before (length leaves) at) in
    let new : AllLead c s (Struct (length leaves)) (field_ways ways 0 x.fields) (struct_leaves leaves x) =
    fields_lead c s (x ∷ rest) ways leaves (length leaves) 0 x.fields h whole fields (λ k y e. subst (λ z. FieldIs c.structs (Struct (length leaves)) y.ty z) (zero_plus k) (field_in_struct c.structs (length leaves) k x y all found e)) in
    structs_lead c s (before ++ x ∷ []) rest (ways ++ field_ways ways 0 x.fields ∷ []) (leaves ++ struct_leaves leaves x ∷ []) all (regroup before ∙ is)
    (length_pushed leaves (struct_leaves leaves x) ∙ ap suc at ∙ sym (length_pushed before x))
    (subst (λ z. structs_sound c.structs z rest ≡ true) (sym (length_pushed leaves (struct_leaves leaves x))) (both_hold_second (struct_sound c.structs (length leaves) x) (structs_sound c.structs (suc (length leaves)) rest) sound))
    whole (table_with c s ways leaves (field_ways ways 0 x.fields) (struct_leaves leaves x) h new)
  where
    zero_plus : (k : ℕ) → k ≡ 0 + k
    zero_plus k = omega arith

    regroup : (before : List StructInfo) → (before ++ x ∷ []) ++ rest ≡ before ++ x ∷ rest
    regroup [] = refl
    regroup (y ∷ ys) = ap (λ zs. y ∷ zs) (regroup ys)

    found_behind : (before : List StructInfo) (n : ℕ) → n ≡ length before → slice_get (before ++ x ∷ rest) n ≡ Some x
    found_behind [] zero h = refl
    found_behind [] (suc n) h = absurd (grind (arith, h))
    found_behind (y ∷ ys) zero h = absurd (grind (arith, h))
    found_behind (y ∷ ys) (suc n) h = found_behind ys n (omega (arith, h))

-- the table is as long as the list of structs
table_length : (leaves : List (List IntType)) (ss : List StructInfo) → length (leaves_from leaves ss) ≡ length leaves + length ss
table_length leaves [] = omega arith
table_length leaves (s ∷ ss) = let h = table_length (leaves ++ struct_leaves leaves s ∷ []) ss in let k = length_pushed leaves (struct_leaves leaves s) in omega (arith, h, k)

pub all_ways_lead : (c : Context) (s : Span) (ty : VarTy) → structs_sound c.structs 0 c.structs ≡ true → is_plain_type (length c.structs) ty ≡ true → is_small c.structs ty ≡ true → AllLead c s ty (ways_of c.structs ty) (leaves_of c.structs ty)
unfolding leaves_of
all_ways_lead c s ty sound plain small =
    let tables = structs_lead c s [] c.structs [] [] sound refl refl sound refl (record { same = refl; each = λ n below. absurd (grind (arith, below)) }) in
    let size : length (leaves_from [] c.structs) ≡ length c.structs = table_length [] c.structs ∙ zero_plus (length c.structs) in
    object_leads c s (ways_from [] c.structs) (leaves_from [] c.structs) ty tables (subst (λ z. is_plain_type z ty ≡ true) (sym size) plain) (grind (arith, nat_tests))
  where
    zero_plus : (k : ℕ) → 0 + k ≡ k
    zero_plus k = omega arith

-- ---- brace lists

-- places of these types, each an integer or a pointer
abbrev pub PlacesFit : Context → List PlaceTree → List VarTy → Type 0
PlacesFit c [] [] = Unit {0}
PlacesFit c [] (ty ∷ tys) = false ≡ true
PlacesFit c (p ∷ ps) [] = false ≡ true
PlacesFit c (p ∷ ps) (ty ∷ tys) = (place_fits c p ≡ true) × (place_type c p ≡ ty) × (is_scalar (Some ty) ≡ true) × PlacesFit c ps tys

led_places : (c : Context) (s : Span) (ty : VarTy) (p : PlaceTree) (ws : Ways) (us : List IntType) → place_fits c p ≡ true → place_type c p ≡ ty → AllLead c s ty ws us → PlacesFit c (map (λ way. at_end_of s way p) ws) (map Int us)
led_places c s ty p [] [] h is k = tt
led_places c s ty p [] (u ∷ us) h is k = false_not_true k
led_places c s ty p (w ∷ ws) [] h is k = false_not_true k
led_places c s ty p (w ∷ ws) (u ∷ us) h is k = let there = k.0 p h is in (there.0, there.1, refl, led_places c s ty p ws us h is k.1)

-- the places of a brace list have the types of its items
pub leaves_fit : (c : Context) (s : Span) (ty : VarTy) (p : PlaceTree) → structs_sound c.structs 0 c.structs ≡ true → is_variable_type (length c.structs) ty ≡ true → is_small c.structs ty ≡ true → place_fits c p ≡ true → place_type c p ≡ ty →
    PlacesFit c (leaf_places c.structs ty s p) (item_types c.structs ty)
leaves_fit c s (Int t) p sound plain small h is = led_places c s (Int t) p (ways_of c.structs (Int t)) (leaves_of c.structs (Int t)) h is (all_ways_lead c s (Int t) sound plain small)
leaves_fit c s (Struct n) p sound plain small h is = led_places c s (Struct n) p (ways_of c.structs (Struct n)) (leaves_of c.structs (Struct n)) h is (all_ways_lead c s (Struct n) sound plain small)
leaves_fit c s (Array elem count) p sound plain small h is = led_places c s (Array elem count) p (ways_of c.structs (Array elem count)) (leaves_of c.structs (Array elem count)) h is (all_ways_lead c s (Array elem count) sound plain small)
leaves_fit c s (Pointer elem fixed) p sound plain small h is = (h, is, refl, tt)
