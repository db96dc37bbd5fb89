-- The integers of an object, each as a place: the k-th lies under the k-th of the object's slots.
use Rattle.std.proofs.Common.{◌≡◌, ◌∙◌, ◌≤◌, ◌<◌, ℕ, zero, suc, pos, ◌+◌, refl, ap, sym, subst, arith, Bool, true, false, Some, List, [], ◌∷◌, ◌++◌, length, length-append, map}
use Rattle.std.specs.Prelude.{get_or, nat_le, nat_lt, slice_get}
use Rattle.std.proofs.lemmas.Bool.Decides.{nat_tests}
use Rattle.std.specs.List.{list_all}
use Rattle.std.proofs.lemmas.Option.{get_or_from_slice_get}
use Rattle.flow_edges.specs.Items.{elem_items, fields_items, items_of, struct_items, type_items}
use Rattle.lowered_code_law.proofs.FormsLeaves.{PlacesFit, leaves_fit}
use Rattle.lowered_code_law.proofs.FormsPlaces.{FieldIs, elem_more, field_in_struct, field_typed}
use Rattle.lowered_code_law.proofs.FormsSettings.{context}
use Rattle.lowering.specs.Expressions.{place_with_field}
use Rattle.lowering.specs.Leaves.{Ways, at_end_of, begun_with, elem_ways, element_ways, field_ways, leaf_places, object_ways, stepped_to, to_element, to_field, ways_from, ways_of}
use Rattle.lowering.specs.Lowered.{int}
use Rattle.handle_classes_law.proofs.ObjectsItems.{depth_free, field_plain, struct_shifts, type_shifts}
use Rattle.pt_base.specs.declared.int_type.IntType.{IntType}
use Rattle.pt_base.specs.declared.int_type.IntType.TheVariants as i
use Rattle.pt_base.specs.declared.span.Span.{Span}
use Rattle.pt_base.proofs.Booleans.{both_hold, both_hold_first, both_hold_second, false_not_true}
use Rattle.pt_base.proofs.Lists.{length_pushed}
use Rattle.pt_base.proofs.Places.{get_or_before, get_or_pushed}
use Rattle.pt_core.specs.CodeTree.{PlaceTree, constant, decay, move}
use Rattle.lowering.specs.Leaves.{Step}
use Rattle.pt_core.specs.Types.{pointee_type}
use Rattle.pt_core.specs.Types as core
use Rattle.pt_tree.specs.declared.signature.Elem.{Elem}
use Rattle.pt_tree.specs.declared.signature.Elem.TheVariants as e
use Rattle.sides.specs.Leaves.{field_start, field_starts, leaf_count}
use Rattle.typed_tree.specs.Cells.{leaves_of, repeated}
use Rattle.typed_tree.specs.Sizes.{fields_of}
use Rattle.typed_tree.specs.TypeTests.{type_of_elem}
use Rattle.typed_tree.specs.WellFormed.{field_sound, is_plain_type, is_small, is_variable_type, struct_sound, structs_sound}
use Rattle.typed_tree.specs.WellFormedExpression.{is_elem}
use Rattle.typed_tree.specs.WellFormedStatement.{item_types}
use Rattle.pt_core.specs.WellFormedExpression.{place_fits}
use Rattle.typed_tree.specs.declared.types.Field.{Field}
use Rattle.typed_tree.specs.declared.types.StructInfo.{StructInfo}
use Rattle.typed_tree.specs.declared.types.VarTy.{VarTy}
use Rattle.typed_tree.specs.declared.types.VarTy.TheVariants.{Array, Int, Pointer, Struct}
use Rattle.handle_classes_law.proofs.SlavesBench.{Bench, ValueIs, judged}
use Rattle.handle_classes_law.proofs.SlavesClasses.{PlaceClass, field_class}
use Rattle.handle_classes_law.proofs.SlavesForms.{decay_is, deref_is}

-- an integer is one of any type
int_place : (b : Bench) (t u : IntType) (slots : List ℕ) (p : PlaceTree) → PlaceClass b.marks (judged b) (Int t) slots p → PlaceClass b.marks (judged b) (Int u) slots p
int_place b t u slots p h = record { fine = h.fine; is = record { kind = h.is.kind; size = h.is.size; may = h.is.may; must = h.is.must }; object = h.object; room = h.room }

-- ---- ways that lead to integers

-- from every place of the type that begins at a slot, the way leads to an integer so far behind
abbrev SlotLeads : Bench → Span → VarTy → List Step → ℕ → Type 0
SlotLeads b s ty way off = (p : PlaceTree) (start : ℕ) → core.place_type (context b.w) p ≡ ty → PlaceClass b.marks (judged b) ty (start ∷ []) p → PlaceClass b.marks (judged b) int ((start + off) ∷ []) (at_end_of s way p)

abbrev AllLead : Bench → Span → VarTy → Ways → List ℕ → Type 0
AllLead b s ty [] [] = Unit {0}
AllLead b s ty [] (x ∷ xs) = false ≡ true
AllLead b s ty (way ∷ ways) [] = false ≡ true
AllLead b s ty (way ∷ ways) (x ∷ xs) = SlotLeads b s ty way x × AllLead b s ty ways xs

lead_both : (b : Bench) (s : Span) (ty : VarTy) (ws vs : Ways) (xs ys : List ℕ) → AllLead b s ty ws xs → AllLead b s ty vs ys → AllLead b s ty (ws ++ vs) (xs ++ ys)
lead_both b s ty [] vs [] ys h k = k
lead_both b s ty [] vs (x ∷ xs) ys h k = false_not_true h
lead_both b s ty (w ∷ ws) vs [] ys h k = false_not_true h
lead_both b s ty (w ∷ ws) vs (x ∷ xs) ys h k = (h.0, lead_both b s ty ws vs xs ys h.1 k)

-- a step leads to a part that begins so far behind
record StepLeads (b : Bench) (s : Span) (ty part : VarTy) (step : Step) (far : ℕ) : Type 0 where
  type : (p : PlaceTree) → core.place_type (context b.w) p ≡ ty → core.place_type (context b.w) (stepped_to s p step) ≡ part
  class : (p : PlaceTree) (start : ℕ) → core.place_type (context b.w) p ≡ ty → PlaceClass b.marks (judged b) ty (start ∷ []) p → PlaceClass b.marks (judged b) part ((start + far) ∷ []) (stepped_to s p step)

-- the ways from a part, behind the step to it
lead_behind : (b : Bench) (s : Span) (ty part : VarTy) (step : Step) (far : ℕ) (ws : Ways) (xs : List ℕ) → StepLeads b s ty part step far → AllLead b s part ws xs → AllLead b s ty (begun_with step ws) (map (λ x. far + x) xs)
lead_behind b s ty part step far [] [] one h = tt
lead_behind b s ty part step far [] (x ∷ xs) one h = false_not_true h
lead_behind b s ty part step far (w ∷ ws) [] one h = false_not_true h
lead_behind b s ty part step far (w ∷ ws) (x ∷ xs) one h = (
  λ p start is class. subst (λ z. PlaceClass b.marks (judged b) int (z ∷ []) (at_end_of s w (stepped_to s p step))) (regroup start far x) (h.0 (stepped_to s p step) (start + far) (one.type p is) (one.class p start is class)),
  lead_behind b s ty part step far ws xs one h.1,
)
  where
    regroup : (a c d : ℕ) → a + c + d ≡ a + (c + d)
    regroup a c d = omega arith

-- ---- elements

to_element_leads : (b : Bench) (s : Span) (elem : Elem) (count k : ℕ) → structs_sound b.w.names.structs 0 b.w.names.structs ≡ true → is_plain_type (length b.w.names.structs) (Array elem count) ≡ true → StepLeads b s (Array elem count) (type_of_elem elem) (to_element k) 0
to_element_leads b s elem count k sound plain = record {
  type = λ p is. ap (λ z. pointee_type (Pointer (core.element_of z) false)) is;
  class = λ p start is h.
      let one = decay_is b elem count false (start ∷ []) p sound plain is h in
      let pointer = moved s p k (start ∷ []) one in
      subst (λ z. PlaceClass b.marks (judged b) (type_of_elem elem) (z ∷ []) (stepped_to s p (to_element k))) (same start)
      (deref_is b elem false false (start ∷ []) (move (decay p) (constant i.Int (pos k)) false s) s (ap (λ z. Pointer (core.element_of z) false) is) pointer);
}
  where
    same : (a : ℕ) → a ≡ a + 0
    same a = omega arith

    moved : (s : Span) (p : PlaceTree) (k : ℕ) (slots : List ℕ) → ValueIs b (Pointer elem false) slots (decay p) → ValueIs b (Pointer elem false) slots (move (decay p) (constant i.Int (pos k)) false s)
    moved s p k slots h = record { fine = (h.fine, tt, h.is.kind, record { integer = refl; number = refl }); is = h.is }

none_behind : (xs : List ℕ) → map (λ x. 0 + x) xs ≡ xs
none_behind [] = refl
none_behind (x ∷ xs) = (λ j. (same x j) ∷ (none_behind xs j))
  where
    same : (x : ℕ) → 0 + x ≡ x
    same x = omega arith

elements_lead : (b : Bench) (s : Span) (elem : Elem) (count more k : ℕ) (ws : Ways) (xs : List ℕ) → structs_sound b.w.names.structs 0 b.w.names.structs ≡ true → is_plain_type (length b.w.names.structs) (Array elem count) ≡ true → AllLead b s (type_of_elem elem) ws xs →
    AllLead b s (Array elem count) (element_ways more k ws) (repeated more xs)
elements_lead b s elem count zero k ws xs sound plain h = tt
elements_lead b s elem count (suc more) k ws xs sound plain h =
    lead_both b s (Array elem count) (begun_with (to_element k) ws) (element_ways more (k + 1) ws) xs (repeated more xs)
    (subst (λ z. AllLead b s (Array elem count) (begun_with (to_element k) ws) z) (none_behind xs) (lead_behind b s (Array elem count) (type_of_elem elem) (to_element k) 0 ws xs (to_element_leads b s elem count k sound plain) h))
    (elements_lead b s elem count more (k + 1) ws xs sound plain h)

-- ---- fields

to_field_leads : (b : Bench) (s : Span) (n k : ℕ) (u : VarTy) → structs_sound b.w.names.structs 0 b.w.names.structs ≡ true → FieldIs b.w.names.structs (Struct n) u k → StepLeads b s (Struct n) u (to_field k) (field_start b.w.names.structs n k)
to_field_leads b s n k u sound f = record {
  type = type;
  class = λ p start is h. field_class b.marks (judged b) n k u (start ∷ []) p sound f.field f.type (subst (λ z. is_plain_type (length b.w.names.structs) z ≡ true) f.type (field_plain b.w.names.structs n k sound f.field)) is (type p is) h;
}
  where
    type : (p : PlaceTree) → core.place_type (context b.w) p ≡ Struct n → core.place_type (context b.w) (place_with_field p k) ≡ u
    type p is = field_typed (context b.w) p k ∙ ap (λ z. core.field_type b.w.names.structs z k) is ∙ f.type

-- ---- structs

abbrev items : List StructInfo → ℕ → ℕ → List ℕ
items structs start n = struct_items structs (length structs) start n

-- the ways from each struct of a table lead to its slots
record TableLeads (b : Bench) (s : Span) (ways : List Ways) : Type 0 where
  each : (n : ℕ) → n < length ways → AllLead b s (Struct n) (get_or ways n []) (items b.w.names.structs 0 n)

elem_leads : (b : Bench) (s : Span) (ways : List Ways) (elem : Elem) → TableLeads b s ways → is_elem (length ways) (Some elem) ≡ true → AllLead b s (type_of_elem elem) (elem_ways ways elem) (elem_items (items b.w.names.structs) 0 elem)
elem_leads b s ways (e.Int t) h k = (λ p start is class. subst (λ z. PlaceClass b.marks (judged b) int (z ∷ []) p) (same start) (int_place b t i.Int (start ∷ []) p class), tt)
  where
    same : (a : ℕ) → a ≡ a + 0
    same a = omega arith
elem_leads b s ways (e.Struct n) h k = h.each n (grind (arith, nat_tests))

object_leads : (b : Bench) (s : Span) (ways : List Ways) (ty : VarTy) → structs_sound b.w.names.structs 0 b.w.names.structs ≡ true → length ways ≤ length b.w.names.structs → TableLeads b s ways → is_plain_type (length ways) ty ≡ true →
    AllLead b s ty (object_ways ways ty) (type_items (items b.w.names.structs) 0 ty)
object_leads b s ways (Int t) sound few h plain = (λ p start is class. subst (λ z. PlaceClass b.marks (judged b) int (z ∷ []) p) (same start) (int_place b t i.Int (start ∷ []) p class), tt)
  where
    same : (a : ℕ) → a ≡ a + 0
    same a = omega arith
object_leads b s ways (Struct n) sound few h plain = h.each n (grind (arith, nat_tests))
object_leads b s ways (Array elem count) sound few h plain =
    elements_lead b s elem count count 0 (elem_ways ways elem) (elem_items (items b.w.names.structs) 0 elem) sound (more_plain (length ways) (length b.w.names.structs) elem count few plain)
    (elem_leads b s ways elem h (both_hold_first (is_elem (length ways) (Some elem)) (nat_le 1 count) plain))
  where
    more_plain : (a c : ℕ) (elem : Elem) (count : ℕ) → a ≤ c → is_plain_type a (Array elem count) ≡ true → is_plain_type c (Array elem count) ≡ true
    more_plain a c elem count few plain = both_hold (is_elem c (Some elem)) (nat_le 1 count) (elem_more a c elem few (both_hold_first (is_elem a (Some elem)) (nat_le 1 count) plain)) (both_hold_second (is_elem a (Some elem)) (nat_le 1 count) plain)
object_leads b s ways (Pointer elem fixed) sound few h plain = false_not_true plain

-- a field, by its place in the struct
record FieldLies (structs : List StructInfo) (n j k start : ℕ) (u : VarTy) : Type 0 where
  field : FieldIs structs (Struct n) u (j + k)
  far : field_start structs n (j + k) ≡ start

-- the fields from this one on, of which the first begins so far behind
fields_lead : (b : Bench) (s : Span) (ways : List Ways) (n j far : ℕ) (fs : List Field) → structs_sound b.w.names.structs 0 b.w.names.structs ≡ true → length ways ≤ length b.w.names.structs → TableLeads b s ways → list_all (field_sound b.w.names.structs (length ways)) fs ≡ true →
    ((k : ℕ) (y : Field) → slice_get fs k ≡ Some y → FieldLies b.w.names.structs n j k (get_or (field_starts (leaf_count b.w.names.structs) far fs) k 0) y.ty) →
    AllLead b s (Struct n) (field_ways ways j fs) (fields_items (leaf_count b.w.names.structs) (items b.w.names.structs) far fs)
fields_lead b s ways n j far [] sound few h fine at = tt
fields_lead b s ways n j far (f ∷ fs) sound few h fine at =
    let structs = b.w.names.structs in
    let one = both_hold_first (field_sound structs (length ways) f) (list_all (field_sound structs (length ways)) fs) fine in
    let plain = both_hold_first (is_plain_type (length ways) f.ty) (is_small structs f.ty) one in
    let here = at 0 f refl in
    let is : FieldIs structs (Struct n) f.ty j = subst (λ z. FieldIs structs (Struct n) f.ty z) (first j) here.field in
    let begins_at : field_start structs n j ≡ far = subst (λ z. field_start structs n z ≡ far) (first j) here.far in
    let own = lead_behind b s (Struct n) f.ty (to_field j) (field_start structs n j) (object_ways ways f.ty) (type_items (items structs) 0 f.ty) (to_field_leads b s n j f.ty sound is) (object_leads b s ways f.ty sound few h plain) in
    lead_both b s (Struct n) (begun_with (to_field j) (object_ways ways f.ty)) (field_ways ways (j + 1) fs) (type_items (items structs) far f.ty) (fields_items (leaf_count structs) (items structs) (far + leaf_count structs f.ty) fs)
    (subst (λ z. AllLead b s (Struct n) (begun_with (to_field j) (object_ways ways f.ty)) z) (shifted structs (field_start structs n j) far f.ty begins_at) own)
    (fields_lead b s ways n (j + 1) (far + leaf_count structs f.ty) fs sound few h (both_hold_second (field_sound structs (length ways) f) (list_all (field_sound structs (length ways)) fs) fine)
    (λ k y is. let there = at (suc k) y is in record { field = subst (λ z. FieldIs structs (Struct n) y.ty z) (next j k) there.field; far = subst (λ z. field_start structs n z ≡ get_or (field_starts (leaf_count structs) (far + leaf_count structs f.ty) fs) k 0) (next j k) there.far }))
  where
    first : (j : ℕ) → j + 0 ≡ j
    first j = omega arith

    next : (j k : ℕ) → j + suc k ≡ j + 1 + k
    next j k = omega arith

    shifted : (structs : List StructInfo) (d far : ℕ) (ty : VarTy) → d ≡ far → map (λ x. d + x) (type_items (items structs) 0 ty) ≡ type_items (items structs) far ty
    shifted structs d far ty is = sym (type_shifts (items structs) (struct_shifts structs (length structs)) d 0 ty) ∙ ap (λ z. type_items (items structs) z ty) (plain d ∙ is)
      where
        plain : (d : ℕ) → d + 0 ≡ d
        plain d = omega arith

-- one struct more
table_with : (b : Bench) (s : Span) (ways : List Ways) (ws : Ways) → TableLeads b s ways → AllLead b s (Struct (length ways)) ws (items b.w.names.structs 0 (length ways)) → TableLeads b s (ways ++ ws ∷ [])
table_with b s ways ws h k = record { each = λ n below. go n below (nat_lt n (length ways)) refl }
  where
    newest : (n : ℕ) → n ≡ length ways → AllLead b s (Struct n) (get_or (ways ++ ws ∷ []) n []) (items b.w.names.structs 0 n)
    newest n is = subst (λ z. AllLead b s (Struct n) z (items b.w.names.structs 0 n)) (sym (get_or_pushed ways ws [] n is)) (subst (λ z. AllLead b s (Struct z) ws (items b.w.names.structs 0 z)) (sym is) k)

    go : (n : ℕ) → n < length (ways ++ ws ∷ []) → (c : Bool) → nat_lt n (length ways) ≡ c → AllLead b s (Struct n) (get_or (ways ++ ws ∷ []) n []) (items b.w.names.structs 0 n)
    go n below true is = let low : n < length ways = grind (arith, nat_tests, is) in subst (λ z. AllLead b s (Struct n) z (items b.w.names.structs 0 n)) (sym (get_or_before ways ws [] n low)) (h.each n low)
    go n below false is = let more = length_pushed ways ws in newest n (grind (arith, nat_tests, is, below, more))

-- the structs of the list, of which these stand behind so many
structs_lead : (b : Bench) (s : Span) (before rest : List StructInfo) (ways : List Ways) → structs_sound b.w.names.structs 0 b.w.names.structs ≡ true → before ++ rest ≡ b.w.names.structs → length ways ≡ length before → structs_sound b.w.names.structs (length ways) rest ≡ true → TableLeads b s ways →
    TableLeads b s (ways_from ways rest) × (length (ways_from ways rest) ≡ length b.w.names.structs)
structs_lead b s before [] ways all is at sound h = (h, at ∙ ap length (sym (no_more before) ∙ is))
  where
    no_more : (xs : List StructInfo) → xs ++ [] ≡ xs
    no_more [] = refl
    no_more (x ∷ xs) = ap (λ zs. x ∷ zs) (no_more xs)
structs_lead b s before (x ∷ rest) ways all is at sound h =
    let structs = b.w.names.structs in
    let one = both_hold_first (struct_sound structs (length ways) x) (structs_sound structs (suc (length ways)) rest) sound in
    let fields = both_hold_second (nat_le 1 (length x.fields)) (list_all (field_sound structs (length ways)) x.fields) one in
    let found : slice_get structs (length ways) ≡ Some x = subst (λ z. slice_get z (length ways) ≡ Some x) is (found_behind before (length ways) at) in
    let small : length ways < length structs = subst (λ z. length ways < length z) is (within before (length ways) at) in
    let own : fields_of structs (length ways) ≡ x.fields = ap (λ (z : StructInfo). z.fields) (get_or_from_slice_get structs (length ways) x (record { name = []; fields = [] }) found) in
    let new = fields_lead b s ways (length ways) 0 0 x.fields all (below (length ways) (length structs) small) h fields
    (λ k y e. record { field = subst (λ z. FieldIs structs (Struct (length ways)) y.ty z) (zero_plus k) (field_in_struct structs (length ways) k x y all found e); far = ap (λ z. field_start structs (length ways) z) (sym (zero_plus k)) ∙ ap (λ z. get_or (field_starts (leaf_count structs) 0 z) k 0) own }) in
    let here : AllLead b s (Struct (length ways)) (field_ways ways 0 x.fields) (items structs 0 (length ways)) =
    subst (λ z. AllLead b s (Struct (length ways)) (field_ways ways 0 x.fields) z) (ap (λ z. fields_items (leaf_count structs) (items structs) 0 z) (sym own) ∙ sym (depth_free structs all (length structs) (suc (length structs)) 0 (length ways) small (more (length ways) (length structs) small))) new in
    structs_lead b s (before ++ x ∷ []) rest (ways ++ field_ways ways 0 x.fields ∷ []) all (regroup before ∙ is)
    (length_pushed ways (field_ways ways 0 x.fields) ∙ ap suc at ∙ sym (length_pushed before x))
    (subst (λ z. structs_sound structs z rest ≡ true) (sym (length_pushed ways (field_ways ways 0 x.fields))) (both_hold_second (struct_sound structs (length ways) x) (structs_sound structs (suc (length ways)) rest) sound))
    (table_with b s ways (field_ways ways 0 x.fields) h here)
  where
    zero_plus : (k : ℕ) → k ≡ 0 + k
    zero_plus k = omega arith

    below : (a c : ℕ) → a < c → a ≤ c
    below a c h = omega (arith, h)

    more : (a c : ℕ) → a < c → a < suc c
    more a c h = omega (arith, h)

    regroup : (before : List StructInfo) → (before ++ x ∷ []) ++ rest ≡ before ++ x ∷ rest
    regroup [] = refl
    regroup (y ∷ ys) = ap (λ zs. y ∷ zs) (regroup ys)

    found_behind : (before : List StructInfo) (n : ℕ) → n ≡ length before → slice_get (before ++ x ∷ rest) n ≡ Some x
    found_behind [] zero h = refl
    found_behind [] (suc n) h = absurd (grind (arith, h))
    found_behind (y ∷ ys) zero h = absurd (grind (arith, h))
    found_behind (y ∷ ys) (suc n) h = found_behind ys n (omega (arith, h))

    within : (before : List StructInfo) (n : ℕ) → n ≡ length before → n < length (before ++ x ∷ rest)
    within before n h = let both = length-append before (x ∷ rest) in omega (arith, h, both)

-- ---- brace lists

-- places of these types, each under one slot
abbrev pub PlacesAre : Bench → List PlaceTree → List VarTy → List ℕ → Type 0
PlacesAre b [] [] [] = Unit {0}
PlacesAre b (p ∷ ps) (u ∷ us) (x ∷ xs) = PlaceClass b.marks (judged b) u (x ∷ []) p × PlacesAre b ps us xs
PlacesAre b _ _ _ = false ≡ true

-- integers, each under one slot
abbrev AtSlots : Bench → List PlaceTree → List ℕ → Type 0
AtSlots b [] [] = Unit {0}
AtSlots b [] (x ∷ xs) = false ≡ true
AtSlots b (p ∷ ps) [] = false ≡ true
AtSlots b (p ∷ ps) (x ∷ xs) = PlaceClass b.marks (judged b) int (x ∷ []) p × AtSlots b ps xs

led_places : (b : Bench) (s : Span) (ty : VarTy) (p : PlaceTree) (start : ℕ) (ws : Ways) (xs : List ℕ) → core.place_type (context b.w) p ≡ ty → PlaceClass b.marks (judged b) ty (start ∷ []) p → AllLead b s ty ws xs → AtSlots b (map (λ way. at_end_of s way p) ws) (map (λ x. start + x) xs)
led_places b s ty p start [] [] is class h = tt
led_places b s ty p start [] (x ∷ xs) is class h = false_not_true h
led_places b s ty p start (w ∷ ws) [] is class h = false_not_true h
led_places b s ty p start (w ∷ ws) (x ∷ xs) is class h = (h.0 p start is class, led_places b s ty p start ws xs is class h.1)

-- of the types that their items have
typed_places : (b : Bench) (ps : List PlaceTree) (us : List IntType) (xs : List ℕ) → PlacesFit (context b.w) ps (map Int us) → AtSlots b ps xs → PlacesAre b ps (map Int us) xs
typed_places b [] [] [] h k = tt
typed_places b [] (u ∷ us) xs h k = false_not_true h
typed_places b (p ∷ ps) [] xs h k = false_not_true h
typed_places b [] [] (x ∷ xs) h k = false_not_true k
typed_places b (p ∷ ps) (u ∷ us) [] h k = false_not_true k
typed_places b (p ∷ ps) (u ∷ us) (x ∷ xs) h k = (int_place b i.Int u (x ∷ []) p k.0, typed_places b ps us xs h.3 k.1)

plain_leaves : (b : Bench) (s : Span) (ty : VarTy) (start : ℕ) (p : PlaceTree) → structs_sound b.w.names.structs 0 b.w.names.structs ≡ true → is_plain_type (length b.w.names.structs) ty ≡ true → core.place_type (context b.w) p ≡ ty → PlaceClass b.marks (judged b) ty (start ∷ []) p →
    AtSlots b (leaf_places b.w.names.structs ty s p) (items_of b.w.names.structs (record { ty = ty; start = start }))
plain_leaves b s ty start p sound plain is class =
    let structs = b.w.names.structs in
    let table = structs_lead b s [] structs [] sound refl refl sound (record { each = λ n below. absurd (grind (arith, below)) }) in
    let leads = object_leads b s (ways_from [] structs) ty sound (same (length (ways_from [] structs)) (length structs) table.1) table.0 (subst (λ z. is_plain_type z ty ≡ true) (sym table.1) plain) in
    subst (λ z. AtSlots b (leaf_places structs ty s p) z) (sym (type_shifts (items structs) (struct_shifts structs (length structs)) start 0 ty) ∙ ap (λ z. type_items (items structs) z ty) (plus_none start))
    (led_places b s ty p start (ways_of structs ty) (type_items (items structs) 0 ty) is class leads)
  where
    same : (a c : ℕ) → a ≡ c → a ≤ c
    same a c h = omega (arith, h)

    plus_none : (a : ℕ) → a + 0 ≡ a
    plus_none a = omega arith

-- the items of a brace list
pub leaves_are : (b : Bench) (s : Span) (ty : VarTy) (start : ℕ) (p : PlaceTree) → structs_sound b.w.names.structs 0 b.w.names.structs ≡ true → is_variable_type (length b.w.names.structs) ty ≡ true → is_small b.w.names.structs ty ≡ true →
    place_fits (context b.w) p ≡ true → core.place_type (context b.w) p ≡ ty → PlaceClass b.marks (judged b) ty (start ∷ []) p →
    PlacesAre b (leaf_places b.w.names.structs ty s p) (item_types b.w.names.structs ty) (items_of b.w.names.structs (record { ty = ty; start = start }))
leaves_are b s (Int t) start p sound known small fits is class = typed_places b (leaf_places b.w.names.structs (Int t) s p) (leaves_of b.w.names.structs (Int t)) (items_of b.w.names.structs (record { ty = Int t; start = start })) (leaves_fit (context b.w) s (Int t) p sound known small fits is) (plain_leaves b s (Int t) start p sound known is class)
leaves_are b s (Struct n) start p sound known small fits is class = typed_places b (leaf_places b.w.names.structs (Struct n) s p) (leaves_of b.w.names.structs (Struct n)) (items_of b.w.names.structs (record { ty = Struct n; start = start })) (leaves_fit (context b.w) s (Struct n) p sound known small fits is) (plain_leaves b s (Struct n) start p sound known is class)
leaves_are b s (Array elem count) start p sound known small fits is class = typed_places b (leaf_places b.w.names.structs (Array elem count) s p) (leaves_of b.w.names.structs (Array elem count)) (items_of b.w.names.structs (record { ty = Array elem count; start = start })) (leaves_fit (context b.w) s (Array elem count) p sound known small fits is) (plain_leaves b s (Array elem count) start p sound known is class)
leaves_are b s (Pointer elem fixed) start p sound known small fits is class = (class, tt)
