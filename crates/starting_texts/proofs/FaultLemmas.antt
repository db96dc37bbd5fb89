-- The table has no fault; and where no entry fits some host, each text has one.
use Rattle.std.proofs.Common.{◌≡◌, ◌∙◌, ◌+◌, ℕ, pos, Bool, true, false, cond, not, ◌&&◌, ◌||◌, nat_lt, is_some, List, [], ◌∷◌, ◌++◌, length, Option, Some, None, option_to_list, refl, sym, ap, inl, inr, le-ltb, true≢false}
use Rattle.std.specs.List.{list_any, position_from}
use Rattle.std.proofs.lemmas.Bool.{and_parts, and_left, and_right, or_parts, or_cases, not-true, not_from_true}
use Rattle.std.proofs.lemmas.Option.{none-some}
use Rattle.pt_base.specs.declared.ids.FnId.{FnId}
use Rattle.pt_base.specs.declared.int_type.IntType.{IntType}
use Rattle.pt_base.specs.declared.int_type.IntType.TheVariants as t
use Rattle.pt_base.proofs.Lists.{cons_not_nil}
use Rattle.pt_tree.specs.declared.host_model.HostModel.{HostModel}
use Rattle.pt_tree.specs.declared.host_model.HostModel.TheVariants.{Table, Feed, Input, Bytes, Line}
use Rattle.pt_tree.specs.declared.signature.Signature.{Signature}
use Rattle.serde_json.specs.Data.{Data, no_members}
use Rattle.serde_json.specs.Find.{get, as_object}
use Rattle.typed_tree.specs.TypedTree.{signatures_of}
use Rattle.typed_tree.specs.WellFormed.{are_distinct}
use Rattle.host_models.specs.Fitting.{is_in_result, has_right_params, has_numbers_in_range}
use Rattle.host_models.specs.Mixed.{is_mixed}
use Rattle.host_table.specs.Entries.{model_in, shaped_or_not, entry_by, entry_of}
use Rattle.host_table.specs.HostFaults.{reading_of, is_input, is_taken, entry_fault, fault_after, faults_after, faults_by}
use Rattle.host_table.specs.declared.fault.HostFault.{HostFault}
use Rattle.host_table.specs.declared.fault.HostFault.TheVariants.{NotJson, Shape, Missing, WrongParams, Range, TwoInputs, TooLong}
use Rattle.starting_texts.specs.Laws.{TablesHaveNoFault, UnfitHostsAreAtFault}
use Rattle.starting_texts.specs.TableData.{line_entry}
use Rattle.starting_texts.specs.Tables.{is_unfit, table_text}
use Rattle.starting_texts.proofs.NameLemmas.{names_of, names_are}
use Rattle.starting_texts.proofs.ReadingLemmas.{zero_found, entry_found, HaveEntries, have_entries, table_found, table_reading}

-- ---- the entry of a host that isn't unfit

-- the model that it says
abbrev start_model : Bool → Signature → HostModel
start_model b s = cond b (Table [] (pos 0)) (Line s.name)

entry_shaped : (s : Signature) → entry_by s.name (Some (entry_found s)) ≡ shaped_or_not (Some (start_model (is_some s.result) s))
entry_shaped s = go (is_some s.result)
  where
    go : (b : Bool) → entry_by s.name (Some (cond b zero_found line_entry)) ≡ shaped_or_not (Some (start_model b s))
    go true = refl
    go false = refl

-- 0 is a number of each type
zero_in : (r : Option IntType) → is_some r ≡ true → is_in_result r (pos 0) ≡ true
zero_in None h = absurd (true≢false (sym h))
zero_in (Some t.Char) h = refl
zero_in (Some t.SChar) h = refl
zero_in (Some t.UChar) h = refl
zero_in (Some t.Short) h = refl
zero_in (Some t.UShort) h = refl
zero_in (Some t.Int) h = refl
zero_in (Some t.UInt) h = refl
zero_in (Some t.Long) h = refl
zero_in (Some t.ULong) h = refl

-- a host without a result that isn't unfit isn't mixed
right_line : (host mixed result : Bool) → host ≡ true → result ≡ false → host && mixed && not result ≡ false → not result && not mixed ≡ true
right_line true false false h r fit = refl
right_line true true false h r fit = absurd (true≢false fit)
right_line true mixed true h r fit = absurd (true≢false r)
right_line false mixed result h r fit = absurd (true≢false (sym h))

no_fault_by : {X : Type 0} (a b c : Bool) (x y z : X) → a ≡ true → b ≡ true → c ≡ false → cond a (cond b (cond c (Some x) None) (Some y)) (Some z) ≡ None
no_fault_by true true false x y z p q r = refl
no_fault_by true true true x y z p q r = absurd (true≢false r)
no_fault_by true false c x y z p q r = absurd (true≢false (sym q))
no_fault_by false b c x y z p q r = absurd (true≢false (sym p))

shaped_sound : (taken : Bool) (f : FnId) (s : Signature) → s.host ≡ true → is_unfit s ≡ false → entry_fault taken f s (shaped_or_not (Some (start_model (is_some s.result) s))) ≡ None
shaped_sound taken f s host fit = go (is_some s.result) refl
  where
    go : (b : Bool) → is_some s.result ≡ b → entry_fault taken f s (shaped_or_not (Some (start_model b s))) ≡ None
    go true is =
        no_fault_by (has_right_params s (Table [] (pos 0))) (has_numbers_in_range s (Table [] (pos 0))) (taken && false) (TwoInputs f) (Range f) (WrongParams f)
        (ap (λ b. b && true) is) (zero_in s.result is) (and_right taken false refl)
    go false is =
        no_fault_by (has_right_params s (Line s.name)) true (taken && false) (TwoInputs f) (Range f) (WrongParams f)
        (right_line s.host (is_mixed s) (is_some s.result) host is fit) refl (and_right taken false refl)

no_fault_at : (table : Data) (before : List Signature) (s : Signature) → (s.host ≡ true → get s.name table ≡ Some (entry_found s)) → is_unfit s ≡ false → fault_after table before s ≡ None
no_fault_at table before s found fit = go s.host refl
  where
    number : FnId
    number = record { 0 = length before }

    go : (b : Bool) → s.host ≡ b → cond b (entry_fault (is_taken table before) number s (entry_of table s)) None ≡ None
    go true host =
        ap (λ (o : Option Data). entry_fault (is_taken table before) number s (entry_by s.name o)) (found host)
        ∙ ap (entry_fault (is_taken table before) number s) (entry_shaped s)
        ∙ shaped_sound (is_taken table before) number s host fit
    go false host = refl

no_faults : (table : Data) (before fns : List Signature) → HaveEntries table fns → list_any is_unfit fns ≡ false → faults_after table before fns ≡ []
no_faults table before [] found fit = refl
no_faults table before (s ∷ fns) found fit =
    let both = or_parts (is_unfit s) (list_any is_unfit fns) fit in
    ap (λ (o : Option HostFault). option_to_list o ++ faults_after table (before ++ s ∷ []) fns) (no_fault_at table before s found.0 both.0)
    ∙ no_faults table (before ++ s ∷ []) fns found.1 both.1

-- ---- the first unfit host

none_unfit : (fns : List Signature) (i : ℕ) → position_from is_unfit i fns ≡ None → list_any is_unfit fns ≡ false
none_unfit [] i none = refl
none_unfit (s ∷ fns) i none = go (is_unfit s) none (none_unfit fns (i + 1))
  where
    go : (b : Bool) → cond b (Some i) (position_from is_unfit (i + 1) fns) ≡ None → (position_from is_unfit (i + 1) fns ≡ None → list_any is_unfit fns ≡ false) → b || list_any is_unfit fns ≡ false
    go true e rest = absurd (none-some i (sym e))
    go false e rest = rest e

some_unfit : (fns : List Signature) (i f : ℕ) → position_from is_unfit i fns ≡ Some f → list_any is_unfit fns ≡ true
some_unfit [] i f some = absurd (none-some f some)
some_unfit (s ∷ fns) i f some = go (is_unfit s) some (some_unfit fns (i + 1) f)
  where
    go : (b : Bool) → cond b (Some i) (position_from is_unfit (i + 1) fns) ≡ Some f → (position_from is_unfit (i + 1) fns ≡ Some f → list_any is_unfit fns ≡ true) → b || list_any is_unfit fns ≡ true
    go true e rest = refl
    go false e rest = rest e

-- ---- no fault

pub no_fault : TablesHaveNoFault
no_fault program plain fit short =
    let fns : List Signature = signatures_of program in
    let distinct : are_distinct (names_of fns) ≡ true = ap are_distinct (names_are program.functions) ∙ plain.distinct in
    ap (λ b. cond b (TooLong ∷ []) (faults_by (reading_of (table_text program)) fns)) (le-ltb 1048576 (length (table_text program)) short)
    ∙ ap (λ (o : Option Data). faults_by o fns) (table_reading program plain)
    ∙ no_faults (table_found program) [] fns (have_entries fns no_members distinct) (none_unfit fns 0 fit)

-- ---- a fault in each text

unfit_params : (s : Signature) (model : HostModel) → is_mixed s ≡ true → is_some s.result ≡ false → has_right_params s model ≡ false
unfit_params s (Table rows other) mixed none = and_left (is_some s.result) _ none
unfit_params s (Feed values other next) mixed none = and_left (is_some s.result) _ none
unfit_params s (Input next) mixed none = and_right _ (not (is_mixed s)) (not_from_true (is_mixed s) mixed)
unfit_params s Bytes mixed none = and_right _ (not (is_mixed s)) (not_from_true (is_mixed s) mixed)
unfit_params s (Line name) mixed none = and_right _ (not (is_mixed s)) (not_from_true (is_mixed s) mixed)

unfit_model : (taken : Bool) (f : FnId) (s : Signature) (o : Option HostModel) → is_mixed s ≡ true → is_some s.result ≡ false → entry_fault taken f s (shaped_or_not o) ≡ None → ⊥
unfit_model taken f s None mixed none is = none-some (Shape (Some f)) (sym is)
unfit_model taken f s (Some model) mixed none is = go (has_right_params s model) (unfit_params s model mixed none) is
  where
    go : (b : Bool) → b ≡ false → cond b (cond (has_numbers_in_range s model) (cond (taken && is_input model) (Some (TwoInputs f)) None) (Some (Range f))) (Some (WrongParams f)) ≡ None → ⊥
    go true wrong e = true≢false wrong
    go false wrong e = none-some (WrongParams f) (sym e)

unfit_entry : (taken : Bool) (f : FnId) (s : Signature) (o : Option Data) → is_mixed s ≡ true → is_some s.result ≡ false → entry_fault taken f s (entry_by s.name o) ≡ None → ⊥
unfit_entry taken f s None mixed none is = none-some (Missing f) (sym is)
unfit_entry taken f s (Some d) mixed none is = unfit_model taken f s (model_in s.name d) mixed none is

unfit_fault : (table : Data) (before : List Signature) (s : Signature) → is_unfit s ≡ true → fault_after table before s ≡ None → ⊥
unfit_fault table before s unfit none =
    let both = and_parts (s.host && is_mixed s) (not (is_some s.result)) unfit in
    let host = and_parts s.host (is_mixed s) both.0 in
    unfit_entry (is_taken table before) number s (get s.name table) host.1 (not-true (is_some s.result) both.1)
    (sym (ap (λ b. cond b (entry_fault (is_taken table before) number s (entry_of table s)) None) host.0) ∙ none)
  where
    number : FnId
    number = record { 0 = length before }

parts : {X : Type 0} (o : Option X) (xs : List X) → option_to_list o ++ xs ≡ [] → (o ≡ None) × (xs ≡ [])
parts None xs none = (refl, none)
parts (Some x) xs none = absurd (cons_not_nil x xs none)

unfit_faults : (table : Data) (before fns : List Signature) → list_any is_unfit fns ≡ true → faults_after table before fns ≡ [] → ⊥
unfit_faults table before [] some none = true≢false (sym some)
unfit_faults table before (s ∷ fns) some none =
    let both = parts (fault_after table before s) (faults_after table (before ++ s ∷ []) fns) none in
    elim (or_cases (is_unfit s) (list_any is_unfit fns) some) [
      | inl here ↦ unfit_fault table before s here both.0
      | inr there ↦ unfit_faults table (before ++ s ∷ []) fns there both.1
    ]

unfit_value : (o : Option Data) (fns : List Signature) → list_any is_unfit fns ≡ true → faults_by o fns ≡ [] → ⊥
unfit_value None fns some none = cons_not_nil NotJson [] none
unfit_value (Some table) fns some none = go (is_some (as_object table)) none
  where
    go : (b : Bool) → cond b (faults_after table [] fns) (Shape None ∷ []) ≡ [] → ⊥
    go true e = unfit_faults table [] fns some e
    go false e = cons_not_nil (Shape None) [] e

pub at_fault : UnfitHostsAreAtFault
at_fault program f text some none = go (nat_lt 1048576 (length text)) none
  where
    go : (b : Bool) → cond b (TooLong ∷ []) (faults_by (reading_of text) (signatures_of program)) ≡ [] → ⊥
    go true e = cons_not_nil TooLong [] e
    go false e = unfit_value (reading_of text) (signatures_of program) (some_unfit (signatures_of program) 0 f some) e
