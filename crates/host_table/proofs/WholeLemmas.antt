-- A table without faults has a model for each host, and it fits.
use Rattle.std.proofs.Common.{◌≡◌, ℕ, zero, suc, ℤ, List, [], ◌∷◌, ◌++◌, length, slice_get, Bool, true, false, true≢false, ◌&&◌, nat_lt, Option, Some, None, option_map, is_some, if◌then◌else◌, subst, refl, sym, ap, ◌∙◌, Result, Ok, Err, IfOk}
use Rattle.std.proofs.lemmas.Option.{none-some, same_Some}
use Rattle.std.specs.Option.{option_and_then, option_to_list}
use Rattle.pt_base.specs.Names.{is_short}
use Rattle.pt_base.specs.declared.ids.FnId.{FnId}
use Rattle.pt_base.proofs.Lists.{cons_not_nil}
use Rattle.pt_tree.specs.declared.host_model.HostModel.{HostModel}
use Rattle.pt_tree.specs.declared.host_model.HostModel.TheVariants.{Table, Feed, Input, Bytes, Line}
use Rattle.pt_tree.specs.declared.row.Row.{Row}
use Rattle.pt_tree.specs.declared.signature.Signature.{Signature}
use Rattle.serde_json.specs.Data.{Data}
use Rattle.serde_json.specs.Find.{get, as_object}
use Rattle.host_models.specs.Fitting.{has_right_params, has_numbers_in_range, has_short_name, fits}
use Rattle.host_table.specs.Entries.{model_of_kind, model_in, kind_in, rows_in, values_in, other_in, shaped_or_not, entry_by, entry_of}
use Rattle.host_table.specs.HostFaults.{faults_by, faults_after, fault_after, entry_fault, is_taken, is_input, shaped_model, host_model, reading_of, table_hosts, IsReading}
use Rattle.host_table.specs.Hosts.{Hosts, hosts_of}
use Rattle.host_table.specs.Whole.{HasHosts}
use Rattle.host_table.specs.declared.entry.Entry.{Entry}
use Rattle.host_table.specs.declared.entry.Entry.TheVariants as entry
use Rattle.host_table.specs.declared.fault.HostError.{HostError}
use Rattle.host_table.specs.declared.fault.HostFault.{HostFault}
use Rattle.host_table.specs.declared.fault.HostFault.TheVariants.{Shape, Missing, WrongParams, Range, TwoInputs, TooLong}
use Rattle.host_table.specs.declared.host.Host.{Host}
use Rattle.host_table.specs.declared.kind.Kind.{Kind}
use Rattle.host_table.specs.declared.kind.Kind.TheVariants as kind

-- ---- a line's name is the host's

short_table : (rows : Option (List Row)) (other : Option ℤ) (m : HostModel) → option_and_then (λ rs. option_map (Table rs) other) rows ≡ Some m → has_short_name m ≡ true
short_table None other m is = absurd (none-some m is)
short_table (Some rows) None m is = absurd (none-some m is)
short_table (Some rows) (Some other) m is = ap has_short_name (sym (same_Some (Table rows other) m is))

short_feed : (values : Option (List ℤ)) (other : Option ℤ) (m : HostModel) → option_and_then (λ vs. option_map (λ o. Feed vs o 0) other) values ≡ Some m → has_short_name m ≡ true
short_feed None other m is = absurd (none-some m is)
short_feed (Some values) None m is = absurd (none-some m is)
short_feed (Some values) (Some other) m is = ap has_short_name (sym (same_Some (Feed values other 0) m is))

short_kind : (name : List ℕ) (d : Data) (k : Kind) (m : HostModel) → is_short name ≡ true → model_of_kind name d k ≡ Some m → has_short_name m ≡ true
short_kind name d kind.Table m short is = short_table (rows_in d) (other_in d) m is
short_kind name d kind.Feed m short is = short_feed (values_in d) (other_in d) m is
short_kind name d kind.Input m short is = ap has_short_name (sym (same_Some (Input 0) m is))
short_kind name d kind.Bytes m short is = ap has_short_name (sym (same_Some Bytes m is))
short_kind name d kind.Line m short is = ap has_short_name (sym (same_Some (Line name) m is)) ∙ short

short_model : (name : List ℕ) (d : Data) (k : Option Kind) (m : HostModel) → is_short name ≡ true → option_and_then (model_of_kind name d) k ≡ Some m → has_short_name m ≡ true
short_model name d None m short is = absurd (none-some m is)
short_model name d (Some k) m short is = short_kind name d k m short is

shaped_is : (o : Option HostModel) (m : HostModel) → shaped_model (shaped_or_not o) ≡ Some m → o ≡ Some m
shaped_is None m is = absurd (none-some m is)
shaped_is (Some n) m is = is

short_entry : (name : List ℕ) (d : Option Data) (m : HostModel) → is_short name ≡ true → shaped_model (entry_by name d) ≡ Some m → has_short_name m ≡ true
short_entry name None m short is = absurd (none-some m is)
short_entry name (Some d) m short is = short_model name d (kind_in d) m short (shaped_is (model_in name d) m is)

-- ---- no fault at any host

no_items : {X : Type 0} (o : Option X) (xs : List X) → option_to_list o ++ xs ≡ [] → (o ≡ None) × (xs ≡ [])
no_items None xs none = (refl, none)
no_items (Some x) xs none = absurd (cons_not_nil x xs none)

-- a function without a fault, whatever stands before it
pub record HasNone (table : Data) (s : Signature) : Type 0 where
  pub taken : Bool
  pub number : FnId
  pub none : (if s.host then entry_fault taken number s (entry_of table s) else None) ≡ None

none_at : (table : Data) (before fns : List Signature) (k : ℕ) (s : Signature) → faults_after table before fns ≡ [] → slice_get fns k ≡ Some s → HasNone table s
none_at table before [] zero s none at = absurd (none-some s at)
none_at table before [] (suc k) s none at = absurd (none-some s at)
none_at table before (t ∷ fns) zero s none at =
    rw (sym (same_Some t s at)) (record { taken = is_taken table before; number = record { 0 = length before }; none = (no_items (fault_after table before t) (faults_after table (before ++ t ∷ []) fns) none).0 })
none_at table before (t ∷ fns) (suc k) s none at =
    none_at table (before ++ t ∷ []) fns k s (no_items (fault_after table before t) (faults_after table (before ++ t ∷ []) fns) none).1 at

pub both : (a b : Bool) → a ≡ true → b ≡ true → a && b ≡ true
both true true p q = refl
both true false p q = absurd (true≢false (sym q))
both false b p q = absurd (true≢false (sym p))

-- a host without a fault: its entry's model has the right parameters and numbers
record Sound (table : Data) (s : Signature) : Type 0 where
  model : HostModel
  is : shaped_model (entry_of table s) ≡ Some model
  params : has_right_params s model ≡ true
  numbers : has_numbers_in_range s model ≡ true

by_tests : (taken : Bool) (f : FnId) (table : Data) (s : Signature) (model : HostModel) (a b : Bool) → shaped_model (entry_of table s) ≡ Some model → has_right_params s model ≡ a → has_numbers_in_range s model ≡ b
    → (if a then (if b then (if taken && is_input model then Some (TwoInputs f) else None) else Some (Range f)) else Some (WrongParams f)) ≡ None → Sound table s
by_tests taken f table s model true true is p q none = record { model = model; is = is; params = p; numbers = q }
by_tests taken f table s model true false is p q none = absurd (none-some (Range f) (sym none))
by_tests taken f table s model false b is p q none = absurd (none-some (WrongParams f) (sym none))

by_entry : (taken : Bool) (f : FnId) (table : Data) (s : Signature) (e : Entry) → entry_of table s ≡ e → entry_fault taken f s e ≡ None → Sound table s
by_entry taken f table s entry.Missing is none = absurd (none-some (Missing f) (sym none))
by_entry taken f table s entry.Misshaped is none = absurd (none-some (Shape (Some f)) (sym none))
by_entry taken f table s (entry.Shaped model) is none =
    by_tests taken f table s model (has_right_params s model) (has_numbers_in_range s model) (ap shaped_model is) refl refl none

sound : (table : Data) (s : Signature) → HasNone table s → s.host ≡ true → Sound table s
sound table s free is =
    by_entry free.taken free.number table s (entry_of table s) refl (ap (λ b. if b then entry_fault free.taken free.number s (entry_of table s) else None) (sym is) ∙ free.none)

model_at : (table : Data) (fns : List Signature) (f : ℕ) (s : Signature) → slice_get fns f ≡ Some s → s.host ≡ true → (table_hosts table fns).models f ≡ shaped_model (entry_of table s)
model_at table fns f s at is = ap (option_and_then (host_model table)) at ∙ ap (λ b. if b then shaped_model (entry_of table s) else None) is

no_model : (table : Data) (fns : List Signature) (f : ℕ) (s : Signature) → slice_get fns f ≡ Some s → s.host ≡ false → (table_hosts table fns).models f ≡ None
no_model table fns f s at is = ap (option_and_then (host_model table)) at ∙ ap (λ b. if b then shaped_model (entry_of table s) else None) is

fit_at : (table : Data) (s : Signature) (model : HostModel) → Sound table s → shaped_model (entry_of table s) ≡ Some model → is_short s.name ≡ true → fits model s ≡ true
fit_at table s model here is short =
    let same : here.model ≡ model = same_Some here.model model (sym here.is ∙ is) in
    both _ _ (both _ _ (ap (has_right_params s) (sym same) ∙ here.params) (ap (has_numbers_in_range s) (sym same) ∙ here.numbers)) (short_entry s.name (get s.name table) model short is)

by_host : (table : Data) (fns : List Signature) (f : ℕ) (s : Signature) (model : HostModel) (b : Bool) → s.host ≡ b → HasNone table s → slice_get fns f ≡ Some s → (table_hosts table fns).models f ≡ Some model
    → is_short s.name ≡ true → fits model s ≡ true
by_host table fns f s model true is free at has short = fit_at table s model (sound table s free is) (sym (model_at table fns f s at is) ∙ has) short
by_host table fns f s model false is free at has short = absurd (none-some model (sym (no_model table fns f s at is) ∙ has))

-- the functions have short names
abbrev pub HaveShortNames : List Signature → Type 0
HaveShortNames fns = (f : ℕ) (s : Signature) → slice_get fns f ≡ Some s → is_short s.name ≡ true

table_has : (table : Data) (fns : List Signature) → HaveShortNames fns → faults_after table [] fns ≡ [] → HasHosts (table_hosts table fns) fns
table_has table fns short none = record {
  model = λ f s at is. let here = sound table s (none_at table [] fns f s none at) is in ap is_some (model_at table fns f s at is ∙ here.is);
  fit = λ f s model at has. by_host table fns f s model s.host refl (none_at table [] fns f s none at) at has (short f s at);
}

by_object : (b : Bool) (table : Data) (fns : List Signature) → HaveShortNames fns → (if b then faults_after table [] fns else Shape None ∷ []) ≡ [] → HasHosts (table_hosts table fns) fns
by_object true table fns short none = table_has table fns short none
by_object false table fns short none = absurd (cons_not_nil (Shape None) [] none)

by_reading : (o : Option Data) (fns : List Signature) (hosts : Hosts) → HaveShortNames fns → faults_by o fns ≡ [] → option_map (λ table. table_hosts table fns) o ≡ Some hosts → HasHosts hosts fns
by_reading None fns hosts short none is = absurd (none-some hosts is)
by_reading (Some table) fns hosts short none is =
    subst (λ (h : Hosts). HasHosts h fns) (same_Some (table_hosts table fns) hosts is) (by_object (is_some (as_object table)) table fns short none)

by_length : (b : Bool) (faults : List HostFault) → (if b then TooLong ∷ [] else faults) ≡ [] → faults ≡ []
by_length true faults none = absurd (cons_not_nil TooLong [] none)
by_length false faults none = none

-- a reading has a model for each host, and it fits
reading_has : (text : List ℕ) (fns : List Signature) (host : Host) → HaveShortNames fns → IsReading text fns (Ok host) → HasHosts (hosts_of host) fns
reading_has text fns host short answer = by_reading (reading_of text) fns (hosts_of host) short (by_length (nat_lt 1048576 (length text)) (faults_by (reading_of text) fns) answer.0) answer.1

pub readings_have : (text : List ℕ) (fns : List Signature) (r : Result Host HostError) → HaveShortNames fns → IsReading text fns r → IfOk r (λ host. HasHosts (hosts_of host) fns)
readings_have text fns (Ok host) short answer = reading_has text fns host short answer
readings_have text fns (Err e) short answer = tt
