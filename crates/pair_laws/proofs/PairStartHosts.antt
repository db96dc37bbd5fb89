-- The hosts of a table without faults, as the halves of an accepted program have them.
use Rattle.std.proofs.Common.{◌≡◌, ◌∙◌, ℕ, ℤ, refl, ap, sym, subst, arith, Bool, true, false, not, Option, Some, None, List, [], ◌∷◌, ◌++◌, length, map, option_map, if◌then◌else◌}
use Rattle.std.specs.Prelude.{IsTrue, ◌&&◌, ◌||◌, is_some, nat_eq, slice_get}
use Rattle.std.specs.List.{Contains, filter, list_all, list_any}
use Rattle.std.proofs.lemmas.List.Elements.{Contains-append_left}
use Rattle.std.proofs.lemmas.Bool.{or_right}
use Rattle.pt_base.proofs.Booleans.{both_hold, both_hold_first, both_hold_second, false_not_true}
use Rattle.pt_base.proofs.Lists.{bytes_if}
use Rattle.pt_base.proofs.Members.{any_true, contains_first, contains_later}
use Rattle.pt_base.proofs.Places.{get_map}
use Rattle.pt_tree.specs.HostStep.{host_step}
use Rattle.pt_tree.specs.declared.host_model.HostModel.{HostModel}
use Rattle.pt_tree.specs.declared.host_model.HostModel.TheVariants.{Table, Feed, Input, Bytes, Line}
use Rattle.pt_tree.specs.declared.signature.Signature.{Signature}
use Rattle.runs.specs.State.{Hosts}
use Rattle.host_models.specs.Fitting.{fits, gives_int, has_numbers_in_range, has_right_params, has_short_name}
use Rattle.host_models.specs.Mixed.{is_mixed}
use Rattle.host_table.specs.Hosts as table
use Rattle.host_table.specs.RunHosts.{model_or_none, models_of}
use Rattle.host_table.specs.Whole.{HasHosts}
use Rattle.typed_tree.specs.TypedTree.{TypedTree, FunctionTree, signatures_of}
use Rattle.typed_tree.specs.WellFormed.{are_rising}
use Rattle.reach.proofs.ListLemmas.{contains_filter, contains_map, from_filter, from_map}
use Rattle.flow_rules.specs.declared.accepted.Accepted.{Accepted}
use Rattle.pt_core.specs.CodeTree.{ProgramTree}
use Rattle.pt_core.specs.BootLaw.{BootsAddHosts}
use Rattle.pt_core.specs.Calls.{signature_in}
use Rattle.pt_core.specs.WellFormed.{callee_by, callee_fits, callees, host_by, host_fits, hosts_fit, is_answered, is_plain_host, is_sound, is_well_formed_monitor, signature_at}
use Rattle.pt_core.proofs.WellFormedLemmas as core_facts
use Rattle.lowering.specs.Functions.{core_program, signatures_from}
use Rattle.lowered_code_law.specs.NamesLaws.{LoweredNames}
use Rattle.lowered_code_law.proofs.FormsLists.{signatures_rise}
use Rattle.lowered_code_law.proofs.FormsPrograms.{signature_of_function}
use Rattle.splitter.specs.Halves.{asked, is_slave_host}
use Rattle.splitter.proofs.SetLemmas.{among_from, among_has}
use Rattle.split_law.specs.Laws.{AcceptedShareNothing, MonitorsAreWellFormed, SlavesAreWellFormed}
use Rattle.split_law.proofs.Chosen.{chosen_rise}
use Rattle.split_law.proofs.LoweredCode.{all_signatures, function_of_signature, signature_listed}
use Rattle.split_law.proofs.Parts.{part, same_signature}
use Rattle.part_views_law.specs.StepsParts.{HasSignature}
use Rattle.slave_soundness_law.specs.Laws.{SlavesBeginSound}
use Rattle.core_soundness_law.specs.Called.{is_called}
use Rattle.monitor_soundness_law.specs.Laws.{HostsFit}
use Rattle.monitor_soundness_law.specs.ServingSound.{AskedFit}
use Rattle.monitor_soundness_law.proofs.ServingEntries.{facts_of_entry}
use Rattle.pair_meaning.specs.Start.{input_for, models_for, reads_input}
use Rattle.pair_invariant_law.specs.Halves.{is_asked_for, is_own_host}
use Rattle.pair_invariant_law.specs.Hosts.{AllHostsFit, HostsAgree}
use Rattle.pair_invariant_law.specs.AcceptedLaws.{monitor_half, slave_half}
use Rattle.pair_invariant_law.proofs.AcceptedEntries.{code, is_asked}
use Rattle.pair_invariant_law.proofs.AcceptedHalves.{IsKnown, are_halves, asked_there, halves, kept_monitor, kept_slave, known_of, owned, signed_monitor, signed_slave, slave_named, the_monitor, the_slave}
use Rattle.pair_invariant_law.proofs.AcceptedMembers.{all_at, each_at, said_of}
use Rattle.pair_invariant_law.proofs.AcceptedParted.{named_in}
use Rattle.pair_laws.specs.PairStartLaws.{AcceptedMonitorsAreWellFormed, BootsAreWellFormed, HostsAgreeAtTheStart, MonitorsHostsServe, SlavesOfBootsAreSound}
use Rattle.pair_laws.specs.PairStartOwn.{HostsAre}
use Rattle.pair_laws.specs.PairStartStart.{boot_at, slave_at}

-- ---- lists

-- what all members pass
all_of : {A : Type 0} (test : A → Bool) (xs : List A) → ((x : A) → Contains xs x → test x ≡ true) → list_all test xs ≡ true
all_of test [] h = refl
all_of test (x ∷ xs) h = both_hold (test x) (list_all test xs) (h x (contains_first x xs)) (all_of test xs (λ y c. h y (contains_later x xs y c)))

-- ---- models

-- each host of the program has a model that fits
abbrev pub HaveModels : TypedTree → Hosts → Type 0
HaveModels t hosts = (f : ℕ) (x : FunctionTree) → slice_get t.functions f ≡ Some x → x.signature.host ≡ true → IsTrue (fits (hosts f) x.signature)

pub models_fit : (t : TypedTree) (hosts : table.Hosts) → HasHosts hosts (signatures_of t) → HaveModels t (models_of hosts.models)
models_fit t hosts have f x is host = go (hosts.models f) refl (have.model f x.signature at host)
  where
    at : slice_get (signatures_of t) f ≡ Some x.signature
    at = get_map (λ (g : FunctionTree). g.signature) t.functions f ∙ ap (option_map (λ (g : FunctionTree). g.signature)) is

    go : (o : Option HostModel) → hosts.models f ≡ o → is_some o ≡ true → IsTrue (fits (model_or_none (hosts.models f)) x.signature)
    go None e h = false_not_true h
    go (Some model) e h = subst (λ (o : Option HostModel). IsTrue (fits (model_or_none o) x.signature)) (sym e) (have.fit f x.signature model at e)

-- so does each host that a half has a signature for
pub part_fits : (t : TypedTree) (signed kept owned : ℕ → Bool) (hosts : Hosts) → HaveModels t hosts → AllHostsFit (part signed kept owned (core_program t)) hosts
part_fits t signed kept owned hosts have f has host =
    let x = named_in t signed kept owned f has in
    subst (λ (s : Signature). IsTrue (fits (hosts f) s)) (sym x.same) (have f x.function x.is (ap (λ (s : Signature). s.host) (sym x.same) ∙ host))

-- a host that is mixed has a table
tables_stay : (input : List ℕ) (args : List ℤ) (model : HostModel) (s : Signature) → is_mixed s ≡ true → IsTrue (fits model s) → (host_step input model args).next ≡ model
tables_stay input args model s mixed fit = go model fit
  where
    wrong : (model : HostModel) → has_right_params s model ≡ false → IsTrue (fits model s) → ⊥
    wrong model unfit fit = false_not_true (sym (ap (λ (b : Bool). b && has_numbers_in_range s model && has_short_name model) unfit) ∙ fit)

    last : (b : Bool) → (b && not true) ≡ false
    last true = refl
    last false = refl

    third : (b c : Bool) → (b && c && not true) ≡ false
    third true true = refl
    third true false = refl
    third false c = refl

    go : (model : HostModel) → IsTrue (fits model s) → (host_step input model args).next ≡ model
    go (Table rows other) fit = refl
    go (Feed values other next) fit = absurd (wrong (Feed values other next) (ap (λ (b : Bool). is_some s.result && not b) mixed ∙ last (is_some s.result)) fit)
    go (Input next) fit = absurd (wrong (Input next) (ap (λ (b : Bool). gives_int s.result && nat_eq (length s.params) 0 && not b) mixed ∙ third (gives_int s.result) (nat_eq (length s.params) 0)) fit)
    go Bytes fit = absurd (wrong Bytes (ap (λ (b : Bool). not (is_some s.result) && not b) mixed ∙ last (not (is_some s.result))) fit)
    go (Line name) fit = absurd (wrong (Line name) (ap (λ (b : Bool). not (is_some s.result) && not b) mixed ∙ last (not (is_some s.result))) fit)

-- ---- the slave's own hosts

abbrev own_hosts : TypedTree → Accepted → List ℕ
own_hosts t a = (slave_half t a).hosts

abbrev numbered : TypedTree → List (ℕ × Signature)
numbered t = signatures_from 0 (signatures_of t)

abbrev passes : TypedTree → Accepted → ℕ × Signature → Bool
passes t a s = is_slave_host (is_asked t (halves a) s.0) s.1

host_has : (t : TypedTree) (a : Accepted) (f : ℕ) (x : FunctionTree) → slice_get t.functions f ≡ Some x → is_slave_host (is_asked t (halves a) f) x.signature ≡ true → Contains (own_hosts t a) f
host_has t a f x is e = contains_map (λ (s : ℕ × Signature). s.0) (filter (passes t a) (numbered t)) (f, x.signature) (contains_filter (passes t a) (numbered t) (f, x.signature) (signature_listed t f x is) e)

-- each is a function's number
abbrev IsOf : TypedTree → ℕ × Signature → Type 0
IsOf t s = (x : FunctionTree) × (slice_get t.functions s.0 ≡ Some x) × (x.signature ≡ s.1)

host_from : (t : TypedTree) (a : Accepted) (f : ℕ) → Contains (own_hosts t a) f → (x : FunctionTree) × (slice_get t.functions f ≡ Some x) × (is_slave_host (is_asked t (halves a) f) x.signature ≡ true)
host_from t a f there =
    let s = from_map (λ (s : ℕ × Signature). s.0) (filter (passes t a) (numbered t)) f there in
    let chosen = from_filter (passes t a) (numbered t) s.0 s.1 in
    let x = each_at (IsOf t) (numbered t) s.0 (all_signatures (IsOf t) t (λ k g is. (g, is, refl))) chosen.0 in
    (x.0, ap (λ (k : ℕ). slice_get t.functions k) (sym s.2) ∙ x.1, ap (λ (k : ℕ). is_slave_host (is_asked t (halves a) k) x.0.signature) (sym s.2) ∙ ap (λ (z : Signature). is_slave_host (is_asked t (halves a) s.0.0) z) x.2 ∙ chosen.1)

-- what the slave calls itself is one
own_there : (t : TypedTree) (a : Accepted) → IsKnown t a → (f : ℕ) → HasSignature (the_slave t a) f → is_own_host (signature_in (the_slave t a) f) ≡ true → Contains (own_hosts t a) f
own_there t a known f has own =
    let x = slave_named t a f has in
    let s = signature_in (the_slave t a) f in
    host_has t a f x.function x.is
    (both_hold (is_own_host x.function.signature) (is_asked t (halves a) f) (ap is_own_host (sym x.same) ∙ own)
    (among_has (asked (halves a) (code t)) f (asked_there t a known f has (or_right s.privileged s.host (both_hold_first s.host (not s.privileged) own)))))

-- ---- the boot

-- numbers with their models are these numbers
numbers_same : (hosts : Hosts) (ns : List ℕ) → map (λ (h : ℕ × HostModel). h.0) (models_for hosts ns) ≡ ns
numbers_same hosts [] = refl
numbers_same hosts (n ∷ ns) = ap (λ (ms : List ℕ). n ∷ ms) (numbers_same hosts ns)

slave_rises : (t : TypedTree) (a : Accepted) → are_rising 0 (own_hosts t a) ≡ true
slave_rises t a = chosen_rise (λ (s : ℕ × Signature). s.0) (passes t a) 0 0 (numbered t) (omega arith) (signatures_rise 0 (signatures_of t))

-- what the slave's code calls has a signature in it
asked_signature : (t : TypedTree) (a : Accepted) (f : ℕ) → Contains (asked (halves a) (code t)) f → signature_at (the_slave t a) f ≡ signature_at (core_program t) f
asked_signature t a f c =
    same_signature (core_program t) (signed_slave t a) (kept_slave a) (owned a) f
    (among_has (asked (halves a) (code t) ++ (halves a).slave) f (Contains-append_left (asked (halves a) (code t)) (halves a).slave f c))

models_stand : (t : TypedTree) (a : Accepted) (hosts : Hosts) → HaveModels t hosts → list_all (host_fits fits (the_slave t a)) (models_for hosts (own_hosts t a)) ≡ true
models_stand t a hosts have = all_of (host_fits fits (the_slave t a)) (models_for hosts (own_hosts t a)) each
  where
    one : (f : ℕ) → Contains (own_hosts t a) f → host_by fits (hosts f) (signature_at (the_slave t a) f) ≡ true
    one f c =
        let x = host_from t a f c in
        let own = both_hold_first (is_own_host x.0.signature) (is_asked t (halves a) f) x.2 in
        let called = among_from (asked (halves a) (code t)) f (both_hold_second (is_own_host x.0.signature) (is_asked t (halves a) f) x.2) in
        let host = both_hold_first x.0.signature.host (not x.0.signature.privileged) own in
        ap (host_by fits (hosts f)) (asked_signature t a f called ∙ signature_of_function t f x.0 x.1) ∙ both_hold x.0.signature.host (fits (hosts f) x.0.signature) host (have f x.0 x.1 host)

    each : (h : ℕ × HostModel) → Contains (models_for hosts (own_hosts t a)) h → host_fits fits (the_slave t a) h ≡ true
    each h c =
        let f = from_map (λ (f : ℕ). (f, hosts f)) (own_hosts t a) h c in
        subst (λ (h : ℕ × HostModel). host_fits fits (the_slave t a) h ≡ true) f.2 (one f.0 f.1)

all_answered : (t : TypedTree) (a : Accepted) (ns : List ℕ) → ns ≡ own_hosts t a → list_all (is_answered (the_slave t a) ns) (callees (the_slave t a)) ≡ true
all_answered t a ns same = all_of (is_answered (the_slave t a) ns) (callees (the_slave t a)) each
  where
    each : (f : ℕ) → Contains (callees (the_slave t a)) f → is_answered (the_slave t a) ns f ≡ true
    each f c = go (signature_at (the_slave t a) f) refl
      where
        there : (s : Signature) → signature_at (the_slave t a) f ≡ Some s → is_own_host s ≡ true → list_any (nat_eq f) ns ≡ true
        there s e own =
            let whole : signature_at (core_program t) f ≡ Some s = sym (asked_signature t a f c) ∙ e in
            let x = function_of_signature t f s whole in
            ap (λ (ms : List ℕ). list_any (nat_eq f) ms) same
            ∙ among_has (own_hosts t a) f (host_has t a f x.0 x.1 (both_hold (is_own_host x.0.signature) (is_asked t (halves a) f) (ap is_own_host x.2 ∙ own) (among_has (asked (halves a) (code t)) f c)))

        by_test : (b : Bool) → (b ≡ true → list_any (nat_eq f) ns ≡ true) → (not b || list_any (nat_eq f) ns) ≡ true
        by_test true h = h refl
        by_test false h = refl

        go : (o : Option Signature) → signature_at (the_slave t a) f ≡ o → is_answered (the_slave t a) ns f ≡ true
        go None e = ap (λ (o : Option Signature). not (is_plain_host o) || list_any (nat_eq f) ns) e
        go (Some s) e = ap (λ (o : Option Signature). not (is_plain_host o) || list_any (nat_eq f) ns) e ∙ by_test (is_own_host s) (there s e)

hosts_stand : (t : TypedTree) (a : Accepted) (hosts : Hosts) → HaveModels t hosts → IsTrue (hosts_fit fits (the_slave t a) (models_for hosts (own_hosts t a)))
hosts_stand t a hosts have =
    let models = models_for hosts (own_hosts t a) in
    both_hold (are_rising 0 (map (λ (h : ℕ × HostModel). h.0) models) && list_all (host_fits fits (the_slave t a)) models) (list_all (is_answered (the_slave t a) (map (λ (h : ℕ × HostModel). h.0) models)) (callees (the_slave t a)))
    (both_hold (are_rising 0 (map (λ (h : ℕ × HostModel). h.0) models)) (list_all (host_fits fits (the_slave t a)) models) (ap (are_rising 0) (numbers_same hosts (own_hosts t a)) ∙ slave_rises t a) (models_stand t a hosts have))
    (all_answered t a (map (λ (h : ℕ × HostModel). h.0) models) (numbers_same hosts (own_hosts t a)))

pub boots_well_formed : AcceptedShareNothing → SlavesAreWellFormed → MonitorsAreWellFormed → LoweredNames → BootsAddHosts → BootsAreWellFormed
boots_well_formed shares slaves monitors names adds t a hosts input budget ready =
    let models = models_for (models_of hosts.models) (own_hosts t a) in
    (adds fits (slave_half t a) models (input_for models input) budget).1
    (slaves t (halves a) ready.well_formed (shares t a ready.accepted).0, hosts_stand t a (models_of hosts.models) (models_fit t hosts ready.has_hosts))

pub slaves_sound : BootsAreWellFormed → SlavesBeginSound → SlavesOfBootsAreSound
slaves_sound boots sound t a hosts input budget ready bytes small =
    sound (boot_at t a hosts input budget) (boots t a hosts input budget ready)
    (bytes_if (list_any (λ (h : ℕ × HostModel). reads_input h.1) (models_for (models_of hosts.models) (own_hosts t a))) input bytes) small

-- ---- the monitor's hosts

-- what a sound program's functions call has a signature
callee_signed : (monitor : Bool) (q : ProgramTree) (f : ℕ) → IsTrue (is_sound monitor q) → Contains (callees q) f → HasSignature q f
callee_signed monitor q f sound called = go (signature_at q f) refl (all_at (callee_fits monitor q) (callees q) f called (core_facts.facts_of monitor q sound).calls)
  where
    go : (o : Option Signature) → signature_at q f ≡ o → callee_by monitor q f o ≡ true → is_some (signature_at q f) ≡ true
    go None e k = false_not_true k
    go (Some s) e k = ap is_some e

call_signed : (t : TypedTree) (a : Accepted) → IsKnown t a → (f : ℕ) → IsTrue (is_called (the_monitor t a) f) → HasSignature (the_monitor t a) f
call_signed t a known f called = callee_signed true (the_monitor t a) f known.monitor_sound (among_from (callees (the_monitor t a)) f called)

-- each host that it has a signature for has a model that fits
monitor_fits : (t : TypedTree) (a : Accepted) (hosts : Hosts) → HaveModels t hosts → AllHostsFit (the_monitor t a) hosts
monitor_fits t a hosts have = part_fits t (signed_monitor t a) (kept_monitor a) (λ n. not (owned a n)) hosts have

called_fit : (t : TypedTree) (a : Accepted) → IsKnown t a → (hosts : Hosts) → HaveModels t hosts → HostsFit (the_monitor t a) hosts
called_fit t a known hosts have f called host = monitor_fits t a hosts have f (call_signed t a known f called) host

-- so have its own hosts
pub own_fit : (t : TypedTree) (a : Accepted) → IsKnown t a → (hosts own : Hosts) → HaveModels t hosts → HostsAre (monitor_half t a) own hosts → HostsFit (the_monitor t a) own
own_fit t a known hosts own have are f called host =
    subst (λ (m : HostModel). IsTrue (fits m (signature_in (the_monitor t a) f))) (sym (are f (call_signed t a known f called) host)) (called_fit t a known hosts have f called host)

-- what may be asked for has its signature
asked_fit : (t : TypedTree) (a : Accepted) → IsTrue (is_well_formed_monitor (monitor_half t a)) → (hosts : Hosts) → HaveModels t hosts → AskedFit (monitor_half t a) hosts
asked_fit t a well hosts have f s entry host =
    let facts = facts_of_entry (monitor_half t a) f s well entry in
    subst (λ (z : Signature). IsTrue (fits (hosts f) z)) facts.signature (monitor_fits t a hosts have f (ap is_some facts.signed) (ap (λ (z : Signature). z.host) facts.signature ∙ host))

pub monitors_well_formed : AcceptedShareNothing → MonitorsAreWellFormed → AcceptedMonitorsAreWellFormed
monitors_well_formed shares monitors t a hosts ready = let apart = shares t a ready.accepted in monitors t (halves a) ready.well_formed apart.0 apart.1

pub hosts_serve : AcceptedShareNothing → SlavesAreWellFormed → MonitorsAreWellFormed → LoweredNames → MonitorsHostsServe
hosts_serve shares slaves monitors names t a hosts ready =
    let have = models_fit t hosts ready.has_hosts in
    record {
      called = called_fit t a (known_of shares slaves monitors names t a ready.well_formed ready.accepted) (models_of hosts.models) have;
      asked = asked_fit t a (monitors_well_formed shares monitors t a hosts ready) (models_of hosts.models) have;
    }

-- ---- all of them

pub agree_at_start : (t : TypedTree) (a : Accepted) → IsKnown t a → (hosts : table.Hosts) (input : List ℕ) (budget : ℕ) (own : Hosts) → HaveModels t (models_of hosts.models) → HostsAre (monitor_half t a) own (models_of hosts.models) →
    HostsAgree (the_slave t a) (the_monitor t a) (models_of hosts.models) input (slave_at t a hosts input budget).hosts (slave_at t a hosts input budget).input own
agree_at_start t a known hosts input budget own have are = record {
  slave_has = λ f has own. ap model_or_none (said_of (λ (n : ℕ). n) whole f (own_hosts t a) (contains_map (λ (n : ℕ). n) (own_hosts t a) f (own_there t a known f has own)));
  monitor_has = are;
  reads = λ f has own read. ap (λ (b : Bool). if b then input else [])
      (any_true (λ (h : ℕ × HostModel). reads_input h.1) (models_for whole (own_hosts t a)) (f, whole f) (contains_map (λ (n : ℕ). (n, whole n)) (own_hosts t a) f (own_there t a known f has own)) read);
  stays = λ f has own too args. tables_stay input args (whole f) (signature_in (the_slave t a) f) (mixed f has own too) (fit f has own);
}
  where
    whole : Hosts
    whole = models_of hosts.models

    fit : (f : ℕ) → HasSignature (the_slave t a) f → is_own_host (signature_in (the_slave t a) f) ≡ true → IsTrue (fits (whole f) (signature_in (the_slave t a) f))
    fit f has own =
        let s = signature_in (the_slave t a) f in part_fits t (signed_slave t a) (kept_slave a) (owned a) whole have f has (both_hold_first s.host (not s.privileged) own)

    by_marks : (priv host mixed : Bool) → (host && not priv) ≡ true → (priv || (host && mixed)) ≡ true → mixed ≡ true
    by_marks false true mixed own for_it = for_it
    by_marks false false mixed own for_it = false_not_true own
    by_marks true true mixed own for_it = false_not_true own
    by_marks true false mixed own for_it = false_not_true own

    -- a host that both may call is mixed
    mixed : (f : ℕ) → HasSignature (the_slave t a) f → is_own_host (signature_in (the_slave t a) f) ≡ true → HasSignature (the_monitor t a) f → is_mixed (signature_in (the_slave t a) f) ≡ true
    mixed f has own too =
        let both = are_halves t a known in
        let s = signature_in (the_slave t a) f in
        let same : signature_in (the_monitor t a) f ≡ signature_in (the_slave t a) f = sym (both.monitor_signatures f too) ∙ both.slave_signatures f has in
        by_marks s.privileged s.host (is_mixed s) own (ap is_asked_for (sym same) ∙ both.hosts f too (ap (λ (z : Signature). z.host) same ∙ both_hold_first s.host (not s.privileged) own))

pub hosts_agree : AcceptedShareNothing → SlavesAreWellFormed → MonitorsAreWellFormed → LoweredNames → HostsAgreeAtTheStart
hosts_agree shares slaves monitors names t a hosts input budget own ready are =
    agree_at_start t a (known_of shares slaves monitors names t a ready.well_formed ready.accepted) hosts input budget own (models_fit t hosts ready.has_hosts) are
